use Rattle.std.proofs.Common.{◌≡◌, ◌≤◌}
use Rattle.model.specs.Program.{offset}
use Rattle.recipe.specs.Bytes.{program_of}
use Rattle.explaining.proofs.bytes.home.Given as goal

abbrev pub invariant-loop-k : goal.invariant-loop-k
invariant-loop-k l = (l.end ≡ offset (program_of l.file).methods l.k) × (l.end ≤ l.n)
