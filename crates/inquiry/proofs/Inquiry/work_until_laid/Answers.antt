use Rattle.std.proofs.Common.{◌≡◌, suc, ◌+◌, ◌-◌, ◌<◌, sym, refl, ap, ◌∙◌, arith}
use Rattle.model.specs.Tables.{dug, work}
use Rattle.model.proofs.Verdicts.{dug_rests}
use Rattle.inquiry.specs.Inquiries.{scene_of, state_of}
use Rattle.inquiry.proofs.Growing.{grown_again}
use Rattle.inquiry.proofs.Steps.{dug_none, dug_more, idle_full, idle_worked, busy}
use Rattle.inquiry.proofs.Inquiry.work_until_laid.Goals as goal
use Rattle.inquiry.proofs.Inquiry.work_until_laid.Goals.{then-self-via-then-self, then-self-via-else-self+then-self-2}

pub returns-then-self-clause-state : goal.returns-then-self-clause-state
returns-then-self-clause-state g c =
    let X = scene_of g.R.AccessRule.meaning g.W.Watch.watching c.args.scene.now in
    let places = c.args.self.now.places in
    let t = c.loop-turn.self in
    let left = c.args.allowed - c.loop-turn.turn in
    let none = dug_none X places (state_of t) 0 refl in
    elim c.then-self.branch [
      | then-self-via-then-self w ↦ none ∙ sym (dug_rests X places left (state_of t) (idle_full t w.if-self.true)) ∙ c.loop-turn.invariant.0
      | then-self-via-else-self+then-self-2 w ↦ none ∙ sym (dug_rests X places left (state_of t) (idle_worked t w.if-self-2.true)) ∙ c.loop-turn.invariant.0
    ]

pub loop-turn-preserved : goal.loop-turn-preserved
loop-turn-preserved g c =
    let X = scene_of g.R.AccessRule.meaning g.W.Watch.watching c.args.scene.now in
    let places = c.args.self.now.places in
    let t = c.loop-turn.self in
    let left = c.args.allowed - (c.loop-turn.turn + 1) in
    let more : c.args.allowed - c.loop-turn.turn ≡ suc left = omega (arith, c.loop-turn-test.true) in
    let lt : t.worked < t.held = omega (arith, t.some, c.if-self-2.false) in
    let worked = c.if-not-work_unlaid.ensures.yes refl ∙ ap (λ n. work X n (state_of t)) c.loop-turn.invariant.1.places in (
      ap (dug X places left) worked ∙ sym (dug_more X places (state_of t) (c.args.allowed - c.loop-turn.turn) left more (busy t c.if-self.false lt)) ∙ c.loop-turn.invariant.0,
      grown_again c.loop-turn.invariant.1 c.if-not-work_unlaid.ensures.grown,
    )
