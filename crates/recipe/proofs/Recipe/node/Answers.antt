use Rattle.std.proofs.Common.{sym, ◌∙◌, arith}
use Rattle.std.proofs.lemmas.Option.{slice_get_past}
use Rattle.recipe.proofs.Standing.{nodes_count, nth_node}
use Rattle.recipe.proofs.Recipe.node.Goals as goal

pub node-requires : goal.node-requires
node-requires c = let h = nodes_count c.args.self.now in omega arith

pub returns-then-n-nodes : goal.returns-then-n-nodes
returns-then-n-nodes c = c.node.ensures ∙ sym (nth_node c.args.self.now c.args.n (omega arith))

pub returns-else-n-nodes : goal.returns-else-n-nodes
returns-else-n-nodes c = sym (slice_get_past _ c.args.n (omega arith))
