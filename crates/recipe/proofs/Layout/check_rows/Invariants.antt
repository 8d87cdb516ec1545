use Rattle.std.proofs.Common.{◌≡◌, ℕ, ◌<◌, true}
use Rattle.recipe.specs.Offence.{row_test}
use Rattle.recipe.proofs.Layout.check_rows.Given as goal

abbrev pub invariant-loop-row : goal.invariant-loop-row
invariant-loop-row l = (j : ℕ) → j < l.row → row_test l.self.file.now j ≡ true
