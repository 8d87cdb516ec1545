use Rattle.std.proofs.Common.{◌≡◌, ℕ, ◌<◌, ◌≤◌, true}
use Rattle.model.specs.Program.{offset}
use Rattle.recipe.specs.Bytes.{program_of}
use Rattle.recipe.specs.Offence.{method_test}
use Rattle.recipe.proofs.Layout.check_methods.Given as goal

abbrev pub invariant-loop-k : goal.invariant-loop-k
invariant-loop-k l =
    (l.sum ≡ offset (program_of l.self.file.now).methods l.k) × (l.sum ≤ l.nodes)
    × ((j : ℕ) → j < l.k → method_test l.self.file.now j ≡ true)
