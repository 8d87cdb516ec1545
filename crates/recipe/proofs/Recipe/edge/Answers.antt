use Rattle.std.proofs.Common.{Some, sym, ap, ◌∙◌, arith}
use Rattle.std.proofs.lemmas.Option.{slice_get_past}
use Rattle.recipe.proofs.Standing.{edges_count, nth_edge}
use Rattle.recipe.proofs.Recipe.edge.Goals as goal

pub edge-requires : goal.edge-requires
edge-requires c = let h = edges_count c.args.self.now in omega arith

pub returns-then-i-edges : goal.returns-then-i-edges
returns-then-i-edges c = ap Some c.edge.ensures ∙ sym (nth_edge c.args.self.now c.args.i (omega arith))

pub returns-else-i-edges : goal.returns-else-i-edges
returns-else-i-edges c = sym (slice_get_past _ c.args.i (omega arith))
