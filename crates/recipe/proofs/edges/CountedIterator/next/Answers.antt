use Rattle.std.proofs.Common.{Some, None, Iter, sym, ap, ◌∙◌, rules, tests}
use Rattle.std.specs.Slice.Iter.{iter_rest, iter_steps}
use Rattle.model.specs.declared.Edge.{Edge}
use Rattle.model.specs.Program.{counts, counted_after}
use Rattle.model.proofs.Edges.{next_counts, next_passed, next_none}
use Rattle.recipe.specs.Recipes.{program}
use Rattle.recipe.proofs.Passing.{passed_over}
use Rattle.recipe.proofs.edges.CountedIterator.next.Goals as goal

-- no edge is left that counts
pub returns-in_err-edge-clause-steps : goal.returns-in_err-edge-clause-steps
returns-in_err-edge-clause-steps c =
    let p = program c.args.self.now.recipe.now in
    let last = c.args.self.now.last in
    let left = λ (i : Iter Edge). counted_after p last (iter_rest i) in
    let found = passed_over iter_steps (λ e. counts p last e.now) left c.args.self.now.edges c.find.new.self None c.in_err-edge.ensures.ran (λ x b q k. search (rules, tests)) (λ s t e step no. next_passed p last _ e.now _ step no) in
    let none = next_none p last _ found.2.0 in
    rw c.from_residual.ensures (found.1 ∙ none, ap left found.2.1 ∙ none)

-- the edges before the one that is found do not count
pub returns-clause-steps : goal.returns-clause-steps
returns-clause-steps c =
    let p = program c.args.self.now.recipe.now in
    let last = c.args.self.now.last in
    let found = passed_over iter_steps (λ e. counts p last e.now) (λ i. counted_after p last (iter_rest i)) c.args.self.now.edges c.find.new.self (Some c.in_ok-edge.field-0) c.in_ok-edge.ensures.ran (λ x b q k. search (rules, tests)) (λ s t e step no. next_passed p last _ e.now _ step no) in
    found.1 ∙ next_counts p last _ _ _ found.2 (sym found.3)

pub returns-clause-goes : goal.returns-clause-goes
returns-clause-goes c = let h = returns-clause-steps c in search rules
