use Rattle.std.proofs.Common.{◌≡◌, take}
use Rattle.samples.specs.Building.{words}
use Rattle.samples.proofs.building.blank.Given as goal

-- the words so far
abbrev pub invariant-loop-n : goal.invariant-loop-n
invariant-loop-n l = l.file.items ≡ words (take l.n-index l.n-items)
