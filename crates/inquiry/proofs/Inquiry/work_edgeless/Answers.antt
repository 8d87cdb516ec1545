use Rattle.std.proofs.Common.{refl}
use Rattle.inquiry.specs.Inquiries.{scene_of}
use Rattle.inquiry.proofs.Steps.{finished, unfinished}
use Rattle.inquiry.proofs.Inquiry.work_edgeless.Goals as goal

pub returns-then-not-self-clause-yes : goal.returns-then-not-self-clause-yes
returns-then-not-self-clause-yes g c =
    let X = scene_of g.R.AccessRule.meaning g.W.Watch.watching c.args.scene.now in
    λ yes. finished X c.args.self.now c.apply_edgeless.new.self c.requires (c.if-not-apply_edgeless.ensures.yes refl) c.if-not-self.true

pub returns-else-not-self-clause-yes : goal.returns-else-not-self-clause-yes
returns-else-not-self-clause-yes g c =
    let X = scene_of g.R.AccessRule.meaning g.W.Watch.watching c.args.scene.now in
    λ yes. unfinished X c.args.self.now c.apply_edgeless.new.self c.requires (c.if-not-apply_edgeless.ensures.yes refl) c.if-not-self.false
