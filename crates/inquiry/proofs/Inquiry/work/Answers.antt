use Rattle.inquiry.specs.Inquiries.{scene_of}
use Rattle.inquiry.proofs.Steps.{finished, unfinished}
use Rattle.inquiry.proofs.Inquiry.work.Goals as goal

pub returns-then-not-self : goal.returns-then-not-self
returns-then-not-self g c =
    let X = scene_of g.R.AccessRule.meaning g.W.Watch.watching c.args.scene.now in
    let grown = c.apply.ensures.grown in
    record {
      state = finished X c.args.self.now c.apply.new.self c.requires c.apply.ensures.state c.if-not-self.true;
      grown = record { same = grown.same; places = grown.places; more = grown.more; kept = grown.kept; rest = grown.rest; opening = grown.opening; fits = grown.fits };
    }

pub returns-else-not-self : goal.returns-else-not-self
returns-else-not-self g c =
    let X = scene_of g.R.AccessRule.meaning g.W.Watch.watching c.args.scene.now in
    record {
      state = unfinished X c.args.self.now c.apply.new.self c.requires c.apply.ensures.state c.if-not-self.false;
      grown = c.apply.ensures.grown;
    }
