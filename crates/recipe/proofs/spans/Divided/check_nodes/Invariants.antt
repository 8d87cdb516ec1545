use Rattle.std.proofs.Common.{◌≡◌, ℕ, ◌<◌, ◌≤◌, true}
use Rattle.recipe.specs.Offence.{node_test}
use Rattle.recipe.proofs.spans.Divided.check_nodes.Given as goal

abbrev pub invariant-loop-n : goal.invariant-loop-n
invariant-loop-n l = (l.span.of ≡ l.self) × (l.span.start ≤ l.n) × ((j : ℕ) → j < l.n → node_test l.self.layout.now.file.now j ≡ true)
