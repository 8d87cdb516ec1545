use Rattle.std.proofs.Common.{◌≡◌, ℕ, ◌<◌, ◌≤◌, true}
use Rattle.model.specs.declared.Edge.{Edge}
use Rattle.model.specs.Program.{rises_after}
use Rattle.recipe.specs.Offence.{edge_before, edge_test}
use Rattle.recipe.proofs.spans.Divided.check_edges.Given as goal

abbrev pub invariant-loop-i : goal.invariant-loop-i
invariant-loop-i l =
    (l.span.of ≡ l.self) × (l.last ≡ edge_before l.self.layout.now.file.now l.i)
    × ((e : Edge) → rises_after l.last e ≡ true → l.span.start ≤ e.from)
    × ((j : ℕ) → j < l.i → edge_test l.self.layout.now.file.now j ≡ true)
