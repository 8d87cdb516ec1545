use Rattle.std.proofs.Common.{ap, ◌∙◌, rules}
use borrow.Author.Tests.{tests}
use Rattle.std.proofs.lemmas.Iterator.{YieldsList-from_map}
use Rattle.std.proofs.lemmas.Iterator.Consumers.{YieldsList-from_first}
use Rattle.model.specs.Tables.{follow_row, offer_all}
use Rattle.inquiry.specs.Inquiries.{left_targets, scene_of, state_of}
use Rattle.inquiry.proofs.Drained.{drained}
use Rattle.inquiry.specs.Shapes.{Hangs}
use Rattle.inquiry.proofs.Hanging.{drawn, row_in, hangs_follow}
use Rattle.inquiry.proofs.Inquiry.follow.Goals as goal

pub returns-clause-state : goal.returns-clause-state
returns-clause-state g c =
    let t = c.args.self.now in
    let along = follow_row (scene_of g.R.AccessRule.meaning g.W.Watch.watching c.args.scene.now) c.args.from.at c.args.from.fact in
    let offered = c.offer_each.ensures.state in
    offered.2 ∙ ap (offer_all t.places (state_of t))
    (drained offered.0 offered.1
    (YieldsList-from_map _ along (YieldsList-from_first (λ x. x) left_targets _ (ap left_targets c.map.ensures.source ∙ c.targets.ensures)) c.map.ensures.closure (λ x r q k. search (rules, tests))))

pub offer_each-requires-clause-hang : goal.offer_each-requires-clause-hang
offer_each-requires-clause-hang g c fs f s next_s yields next =
    let t = c.args.self.now in
    let X = scene_of g.R.AccessRule.meaning g.W.Watch.watching c.args.scene.now in
    let from = c.args.from in
    let in_rows = row_in t from c.requires in
    drawn (Hangs (state_of t).rows) (follow_row X from.at from.fact) _ s next_s
    (YieldsList-from_map _ (follow_row X from.at from.fact) (YieldsList-from_first (λ x. x) left_targets _ (ap left_targets c.map.ensures.source ∙ c.targets.ensures)) c.map.ensures.closure (λ x r q k. search (rules, tests)))
    (λ m. hangs_follow X (state_of t).rows from.at from.fact m in_rows.0 in_rows.1) fs yields next
