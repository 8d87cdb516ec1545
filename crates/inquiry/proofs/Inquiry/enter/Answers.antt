use Rattle.std.proofs.Common.{ap, ◌∙◌, length, arith, rules}
use borrow.Author.Tests.{tests}
use Rattle.std.proofs.lemmas.Iterator.{YieldsList-from_range, YieldsList-from_map}
use Rattle.std.proofs.lemmas.Iterator.Consumers.{YieldsList-at, YieldsList-from_filter}
use Rattle.model.specs.Program.{is_entry_of}
use Rattle.model.specs.Tables.{enter_row, offer_all}
use Rattle.inquiry.specs.Inquiries.{scene_of, state_of}
use Rattle.inquiry.proofs.Drained.{drained, each_passed}
use Rattle.inquiry.specs.Shapes.{Hangs}
use Rattle.inquiry.proofs.Hanging.{drawn, row_in, hangs_enter}
use Rattle.inquiry.proofs.Inquiry.enter.Goals as goal

pub returns-clause-state : goal.returns-clause-state
returns-clause-state g c =
    let t = c.args.self.now in
    let X = scene_of g.R.AccessRule.meaning g.W.Watch.watching c.args.scene.now in
    let nodes = length X.program.nodes in
    let entry = is_entry_of X.program c.args.callee in
    let row = enter_row X c.args.call.at c.args.call.fact in
    let offered = c.offer_each.ensures.state in
    offered.2 ∙ ap (offer_all t.places (state_of t))
    (drained offered.0 offered.1
    (YieldsList-from_map _ row
    (YieldsList-at c.map.ensures.source (YieldsList-from_filter _ entry (YieldsList-from_range 0 c.nodes.result nodes c.filter.ensures.source (omega (arith, c.nodes.ensures))) c.filter.ensures.closure (λ x b q k. search (rules, tests))))
    c.map.ensures.closure (λ x r q k. search (rules, tests)))
    ∙ each_passed entry row nodes)

pub offer_each-requires-clause-hang : goal.offer_each-requires-clause-hang
offer_each-requires-clause-hang g c fs f s next_s yields next =
    let t = c.args.self.now in
    let X = scene_of g.R.AccessRule.meaning g.W.Watch.watching c.args.scene.now in
    let nodes = length X.program.nodes in
    let entry = is_entry_of X.program c.args.callee in
    let call = c.args.call in
    let in_rows = row_in t call c.requires in
    drawn (Hangs (state_of t).rows) (enter_row X call.at call.fact) _ s next_s
    (YieldsList-from_map _ (enter_row X call.at call.fact)
    (YieldsList-at c.map.ensures.source (YieldsList-from_filter _ entry (YieldsList-from_range 0 c.nodes.result nodes c.filter.ensures.source (omega (arith, c.nodes.ensures))) c.filter.ensures.closure (λ x b q k. search (rules, tests))))
    c.map.ensures.closure (λ x r q k. search (rules, tests)))
    (λ m. hangs_enter X (state_of t).rows call.at call.fact m in_rows.0) fs yields next
