use Rattle.std.proofs.Common.{◌≡◌, ℕ, ◌<◌, true}
use Rattle.recipe.specs.Offence.{cell_test}
use Rattle.explaining.proofs.broken.row_broken.Given as goal

abbrev pub invariant-loop-mark : goal.invariant-loop-mark
invariant-loop-mark l = (j : ℕ) → j < l.mark → cell_test l.file l.row j ≡ true
