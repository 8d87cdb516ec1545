use Rattle.std.proofs.Common.{◌≤◌, ◌+◌, ◌∷◌, ◌++◌, length, take, drop, refl, ap, ◌∙◌, arith, rules}
use Rattle.rules.specs.Subjects.{setting_of}
use Rattle.inquiry.specs.Calls.{in_use}
use Rattle.inquiry.specs.Inquiries.{state_of}
use Rattle.inquiry.proofs.Links.{link_sound}
use Rattle.inquiry.proofs.Reaching.{link_next}
use Rattle.inquiry.proofs.Inquiry.link.Goals as goal

pub returns-clause-sound : goal.returns-clause-sound
returns-clause-sound g c =
    let i = c.args.self.now in
    let edges = c.args.edges.now in
    let e = c.args.edge in
    let used = in_use i edges in
    let X = setting_of g.R.AccessRule.meaning g.W.Watch.watching c.args.on.now used in
    let within : i.opening.used ≤ length edges = search rules in
    let becomes = c.insert.ensures ∙ ap (λ k. take k used ++ e ∷ drop k used ++ drop (i.opening.used + 1) edges) c.rising_place-place.ensures.place in
    link_sound i X edges c.insert.new.edges i.places (state_of i) e within refl c.in_ok-may_link.ensures becomes

-- one edge more is in use, for which there is a place, and no fact is worked
pub invariant_of-self : goal.invariant_of-self
invariant_of-self g c =
    let i = c.args.self.now in
    record { lent = i.lent; few = i.few; within = i.within; some = omega arith; used = search rules; few_places = i.few_places; hangs = i.hangs }

pub returns-in_err-may_link-clause-history : goal.returns-in_err-may_link-clause-history
returns-in_err-may_link-clause-history g c =
    λ places edge_places. link_next g.R.AccessRule.meaning g.W.Watch.watching c.args.on.now c.args.self.now c.args.edges.now places edge_places c.args.edge.from c.args.edge.to _ _ _ (search rules) (search rules) (search rules) (search rules) (search rules)

pub returns-clause-history : goal.returns-clause-history
returns-clause-history g c =
    λ places edge_places. link_next g.R.AccessRule.meaning g.W.Watch.watching c.args.on.now c.args.self.now c.args.edges.now places edge_places c.args.edge.from c.args.edge.to _ _ _ (search rules) (search rules) (search rules) (search rules) (search rules)
