use Rattle.std.proofs.Common.{◌≡◌, Some, None, eqb, ap, ◌∙◌, rules, tests}
use Rattle.std.specs.Iterator.{YieldsFirst}
use Rattle.model.specs.Tables.{targets}
use Rattle.model.proofs.Each.{targets_yes, targets_no}
use Rattle.recipe.specs.declared.edges.Counted.{Counted}
use Rattle.recipe.specs.Sequences.{left_in_list}
use Rattle.recipe.proofs.Passing.{passed_over}
use Rattle.inquiry.proofs.Looking.{targets_none}
use Rattle.inquiry.proofs.leading.SoughtIterator.next.Goals as goal

-- no edge is left that leaves the node
pub returns-in_err-edge-clause-steps : goal.returns-in_err-edge-clause-steps
returns-in_err-edge-clause-steps c =
    let node = c.args.self.now.node in
    let left = λ (e : Counted). targets (left_in_list e) node in
    let found = passed_over (YieldsFirst left_in_list) (λ e. eqb e.from node) left c.args.self.now.edges c.find.new.self None c.in_err-edge.ensures.ran (λ x b q k. search (rules, tests)) (λ s t e step no. ap (λ es. targets es node) step ∙ targets_no e _ node no) in
    rw c.from_residual.ensures (found.1 ∙ targets_none node found.2.0, targets_none node found.2.1)

-- the edges before the one that is found leave other nodes
pub returns-clause-steps : goal.returns-clause-steps
returns-clause-steps c =
    let node = c.args.self.now.node in
    let left = λ (e : Counted). targets (left_in_list e) node in
    let found = passed_over (YieldsFirst left_in_list) (λ e. eqb e.from node) left c.args.self.now.edges c.find.new.self (Some c.in_ok-edge.edge) c.in_ok-edge.ensures.ran (λ x b q k. search (rules, tests)) (λ s t e step no. ap (λ es. targets es node) step ∙ targets_no e _ node no) in
    let same : c.in_ok-edge.edge.from ≡ node = search (rules, tests) in
    found.1 ∙ ap (λ es. targets es node) found.2 ∙ targets_yes c.in_ok-edge.edge _ node same

pub returns-clause-goes : goal.returns-clause-goes
returns-clause-goes c = let h = returns-clause-steps c in search rules
