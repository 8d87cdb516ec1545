use Rattle.std.proofs.Common.{sym, subst, rules}
use Rattle.model.specs.Searches.{Sound}
use Rattle.model.proofs.Searching.{dug_sound}
use Rattle.rules.specs.Subjects.{setting_of}
use Rattle.inquiry.specs.Calls.{in_use}
use Rattle.inquiry.specs.Inquiries.{state_of}
use Rattle.inquiry.proofs.Steps.{dug_since}
use Rattle.inquiry.proofs.Reaching.{dig_next}
use Rattle.inquiry.proofs.Inquiry.dig.Goals as goal

pub overflow_sub-result : goal.overflow_sub-result
overflow_sub-result g c =
    let i = c.args.self.now in
    dug_since _ i.places c.args.allowed (state_of i) (state_of c.work_along.new.self) c.work_along.ensures.state

pub returns-clause-sound : goal.returns-clause-sound
returns-clause-sound g c =
    let i = c.args.self.now in
    let X = setting_of g.R.AccessRule.meaning g.W.Watch.watching c.args.on.now (in_use i c.args.edges.now) in
    λ h. subst (Sound X i.places) (sym c.work_along.ensures.state) (dug_sound X i.places c.args.allowed (state_of i) h)

pub returns-in_err-may_dig-clause-history : goal.returns-in_err-may_dig-clause-history
returns-in_err-may_dig-clause-history g c =
    λ places edge_places. dig_next g.R.AccessRule.meaning g.W.Watch.watching c.args.on.now c.args.self.now c.args.edges.now places edge_places c.args.allowed _ _ (search rules) (search rules) (search rules)

pub returns-clause-history : goal.returns-clause-history
returns-clause-history g c =
    λ places edge_places. dig_next g.R.AccessRule.meaning g.W.Watch.watching c.args.on.now c.args.self.now c.args.edges.now places edge_places c.args.allowed _ _ (search rules) (search rules) (search rules)
