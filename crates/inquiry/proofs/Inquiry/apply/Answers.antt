use Rattle.std.proofs.Common.{◌<◌, sym, ap, ◌∙◌, arith}
use Rattle.model.specs.declared.Node.{Node}
use Rattle.inquiry.specs.Inquiries.{scene_of}
use Rattle.inquiry.proofs.Growing.{grown_same, grown_again}
use Rattle.inquiry.proofs.Steps.{not_passed, called}
use Rattle.inquiry.proofs.Inquiry.apply.Goals as goal

pub returns-else-pass : goal.returns-else-pass
returns-else-pass g c =
    let X = scene_of g.R.AccessRule.meaning g.W.Watch.watching c.args.scene.now in
    let own = c.args.own in
    record {
      state = not_passed X c.args.self.now own.at own.fact c.in-Check.required (ap (λ (n : Node). n.kind) (sym c.node_at.ensures) ∙ c.in-Check.is) (sym c.if-pass.ensures.answer);
      grown = grown_same c.args.self.now;
    }

pub returns-in-Call : goal.returns-in-Call
returns-in-Call g c =
    let X = scene_of g.R.AccessRule.meaning g.W.Watch.watching c.args.scene.now in
    let own = c.args.own in
    let held : own.at < c.args.self.now.held = c.requires.0 in
    record {
      state = called X c.join_returns.new.self own.at own.fact c.in-Call.callee _ _ (omega arith) (ap (λ (n : Node). n.kind) (sym c.node_at.ensures) ∙ c.in-Call.is) c.enter.ensures.state c.enter.ensures.grown c.join_returns.ensures.state;
      grown = grown_again c.enter.ensures.grown c.join_returns.ensures.grown;
    }
