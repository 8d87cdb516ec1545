use Rattle.std.proofs.Common.{ap, ◌∙◌, rules}
use borrow.Author.Tests.{tests}
use Rattle.std.proofs.lemmas.Iterator.{YieldsList-from_map}
use Rattle.std.proofs.lemmas.Iterator.Consumers.{YieldsList-from_first}
use Rattle.model.specs.Tables.{back_row, offer_all}
use Rattle.inquiry.specs.Inquiries.{left_targets, scene_of, state_of}
use Rattle.inquiry.proofs.Drained.{drained}
use Rattle.inquiry.specs.Shapes.{Hangs}
use Rattle.inquiry.proofs.Hanging.{drawn, row_in, hangs_back}
use Rattle.inquiry.proofs.Inquiry.come_back.Goals as goal

pub returns-clause-state : goal.returns-clause-state
returns-clause-state g c =
    let t = c.args.self.now in
    let along = back_row (scene_of g.R.AccessRule.meaning g.W.Watch.watching c.args.scene.now) c.args.call.at c.args.call.fact c.args.back.at c.args.back.fact in
    let offered = c.offer_each.ensures.state in
    offered.2 ∙ ap (offer_all t.places (state_of t))
    (drained offered.0 offered.1
    (YieldsList-from_map _ along (YieldsList-from_first (λ x. x) left_targets _ (ap left_targets c.map.ensures.source ∙ c.targets.ensures)) c.map.ensures.closure (λ x r q k. search (rules, tests))))

pub offer_each-requires-clause-hang : goal.offer_each-requires-clause-hang
offer_each-requires-clause-hang g c fs f s next_s yields next =
    let t = c.args.self.now in
    let X = scene_of g.R.AccessRule.meaning g.W.Watch.watching c.args.scene.now in
    let call = c.args.call in
    let back = c.args.back in
    let before = row_in t call c.requires.call in
    let after = row_in t back c.requires.back in
    drawn (Hangs (state_of t).rows) (back_row X call.at call.fact back.at back.fact) _ s next_s
    (YieldsList-from_map _ (back_row X call.at call.fact back.at back.fact) (YieldsList-from_first (λ x. x) left_targets _ (ap left_targets c.map.ensures.source ∙ c.targets.ensures)) c.map.ensures.closure (λ x r q k. search (rules, tests)))
    (λ m. hangs_back X (state_of t).rows call.at call.fact back.at back.fact m before.0 after.0 before.1 after.1) fs yields next
