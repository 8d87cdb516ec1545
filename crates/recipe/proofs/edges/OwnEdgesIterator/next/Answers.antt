use Rattle.std.proofs.Common.{sym, ◌∙◌, rules}
use Rattle.std.proofs.lemmas.Option.{slice_get_within}
use Rattle.recipe.specs.Recipes.{own_edges}
use Rattle.recipe.proofs.Sequences.{drop_at, drop_past}
use Rattle.recipe.proofs.Standing.{edges_count}
use Rattle.recipe.proofs.edges.OwnEdgesIterator.next.Goals as goal

-- past the last edge nothing is left
pub returns-in_err-edge-clause-steps : goal.returns-in_err-edge-clause-steps
returns-in_err-edge-clause-steps c =
    let none = drop_past (own_edges c.args.self.now.recipe.now) c.args.self.now.at (sym c.edge.ensures ∙ c.in_err-edge.was) in
    search rules

pub overflow_add-self : goal.overflow_add-self
overflow_add-self c =
    let within = slice_get_within (own_edges c.args.self.now.recipe.now) c.args.self.now.at c.in_ok-edge.edge (sym c.edge.ensures ∙ c.in_ok-edge.was) in
    let many = edges_count c.args.self.now.recipe.now in
    search rules

pub returns-clause-steps : goal.returns-clause-steps
returns-clause-steps c = drop_at (own_edges c.args.self.now.recipe.now) c.args.self.now.at c.in_ok-edge.edge (sym c.edge.ensures ∙ c.in_ok-edge.was)

pub returns-clause-goes : goal.returns-clause-goes
returns-clause-goes c = let h = returns-clause-steps c in search rules
