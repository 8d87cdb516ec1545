use Rattle.std.proofs.Common.{◌≡◌, ◌<◌, length, take}
use Rattle.std.specs.List.{All}
use Rattle.samples.specs.Building.{with_changes}
use Rattle.samples.proofs.building.changed.Given as goal

-- the changes so far are made, each within the file
abbrev pub invariant-loop-at : goal.invariant-loop-at
invariant-loop-at l = record {
  made : l.copy.items ≡ with_changes l.initial.copy.items (take l.at-index l.changes);
  long : length l.copy.items ≡ length l.initial.copy.items;
  within : All (λ c. c.0 < length l.initial.copy.items) (take l.at-index l.changes);
}
