use Rattle.std.proofs.Common.{◌≡◌, ◌-◌, ◌≤◌}
use Rattle.recipe.proofs.spans.Span.seek.Given as goal

abbrev pub invariant-loop-span : goal.invariant-loop-span
invariant-loop-span l = (l.span.of ≡ l.self.of) × (l.span.start ≤ l.n)

abbrev pub decreases-loop-span : goal.decreases-loop-span
decreases-loop-span l = l.self.of.layout.now.contents.methods.count - l.span.method
