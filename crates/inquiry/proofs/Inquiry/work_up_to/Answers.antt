use Rattle.std.proofs.Common.{◌≡◌, suc, ◌+◌, ◌-◌, ◌<◌, sym, ap, ◌∙◌, arith}
use Rattle.model.specs.Tables.{dug}
use Rattle.inquiry.specs.Inquiries.{scene_of, state_of}
use Rattle.inquiry.proofs.Growing.{grown_again}
use Rattle.model.proofs.Verdicts.{dug_rests}
use Rattle.inquiry.proofs.Steps.{dug_none, dug_more, idle_full, idle_worked, busy}
use Rattle.inquiry.proofs.Inquiry.work_up_to.Goals as goal
use Rattle.inquiry.proofs.Inquiry.work_up_to.Goals.{then-self-via-then-self, then-self-via-else-self+then-self-2}

pub loop-turn-preserved : goal.loop-turn-preserved
loop-turn-preserved g c =
    let X = scene_of g.R.AccessRule.meaning g.W.Watch.watching c.args.scene.now in
    let t = c.loop-turn.self in
    let u = c.work.new.self in
    let turn = c.loop-turn._turn in
    let left = c.args.allowed - (turn + 1) in
    let more : c.args.allowed - turn ≡ suc left = omega (arith, c.loop-turn-test.true) in
    let lt : t.worked < t.held = omega (arith, t.some, c.if-self-2.false) in (
      ap (λ n. dug X n left (state_of u)) c.work.ensures.grown.places ∙ ap (dug X t.places left) c.work.ensures.state
          ∙ sym (dug_more X t.places (state_of t) (c.args.allowed - turn) left more (busy t c.if-self.false lt)) ∙ c.loop-turn.invariant.0,
      grown_again c.loop-turn.invariant.1 c.work.ensures.grown,
    )

pub returns-then-self : goal.returns-then-self
returns-then-self g c =
    let X = scene_of g.R.AccessRule.meaning g.W.Watch.watching c.args.scene.now in
    let t = c.loop-turn.self in
    let left = c.args.allowed - c.loop-turn._turn in
    record {
      state = elim c.then-self.branch [
        | then-self-via-then-self w ↦ sym (dug_rests X t.places left (state_of t) (idle_full t w.if-self.true)) ∙ c.loop-turn.invariant.0
        | then-self-via-else-self+then-self-2 w ↦ sym (dug_rests X t.places left (state_of t) (idle_worked t w.if-self-2.true)) ∙ c.loop-turn.invariant.0
      ];
      grown = c.loop-turn.invariant.1;
    }

pub returns : goal.returns
returns g c =
    let X = scene_of g.R.AccessRule.meaning g.W.Watch.watching c.args.scene.now in
    let t = c.loop-turn.self in
    record {
      state = sym (dug_none X t.places (state_of t) (c.args.allowed - c.loop-turn._turn) (omega (arith, c.loop-turn-test.false))) ∙ c.loop-turn.invariant.0;
      grown = c.loop-turn.invariant.1;
    }
