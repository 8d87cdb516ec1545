use Rattle.std.proofs.Common.{◌<◌, sym, ap, ◌∙◌, arith}
use Rattle.std.proofs.lemmas.Bool.{not-true}
use Rattle.model.specs.declared.Node.{Node}
use Rattle.model.specs.Tables.{return_at, call_at}
use Rattle.inquiry.specs.Inquiries.{scene_of, state_of}
use Rattle.inquiry.proofs.Growing.{grown_same, each_none, no_return, no_call}
use Rattle.inquiry.proofs.Steps.{not_passed, returns_nowhere, called_alone}
use Rattle.inquiry.proofs.Inquiry.apply_edgeless.Goals as goal

pub returns-in-Check-clause-yes : goal.returns-in-Check-clause-yes
returns-in-Check-clause-yes g c =
    let X = scene_of g.R.AccessRule.meaning g.W.Watch.watching c.args.scene.now in
    let own = c.args.own in
    λ yes. not_passed X c.args.self.now own.at own.fact c.in-Check.required (ap (λ (n : Node). n.kind) (sym c.node_at.ensures) ∙ c.in-Check.is) (sym c.pass.ensures.answer ∙ not-true c.pass.result yes)

pub returns-in-None-clause-yes : goal.returns-in-None-clause-yes
returns-in-None-clause-yes g c =
    let X = scene_of g.R.AccessRule.meaning g.W.Watch.watching c.args.scene.now in
    let b = c.args.self.now in
    let own = c.args.own in
    let held : own.at < b.held = c.requires.0 in
    let none = each_none 0 own.at (return_at X (state_of b).rows own.at own.fact) (λ k low high. no_return X (grown_same b) own.at own.fact k (omega arith) (c.in-None.ensures k low high)) in
    λ yes. called_alone X own.at own.fact c.in-Call.callee _ _ (omega arith) (ap (λ (n : Node). n.kind) (sym c.node_at.ensures) ∙ c.in-Call.is) c.enter.ensures.state c.enter.ensures.grown none

pub returns-in-None-next_call-clause-yes : goal.returns-in-None-next_call-clause-yes
returns-in-None-next_call-clause-yes g c =
    let X = scene_of g.R.AccessRule.meaning g.W.Watch.watching c.args.scene.now in
    let b = c.args.self.now in
    let own = c.args.own in
    let held : own.at < b.held = c.requires.0 in
    let none = each_none 0 own.at (call_at X (state_of b).rows own.at own.fact) (λ k low high. no_call X (grown_same b) own.at own.fact k (omega arith) (c.in-None-next_call.ensures k low high)) in
    λ yes. returns_nowhere X b own.at own.fact (ap (λ (n : Node). n.kind) (sym c.node_at.ensures) ∙ c.in-Return.is) none
