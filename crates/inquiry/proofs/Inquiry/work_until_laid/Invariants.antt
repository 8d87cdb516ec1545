use Rattle.std.proofs.Common.{◌≡◌, ◌-◌}
use Rattle.model.specs.Tables.{dug}
use Rattle.inquiry.specs.Inquiries.{scene_of, state_of, Grown}
use Rattle.inquiry.proofs.Inquiry.work_until_laid.Given as goal

-- what is left of the allowance gives the rest of the dig
abbrev pub invariant-loop-turn : goal.invariant-loop-turn
invariant-loop-turn g l =
    let X = scene_of g.R.AccessRule.meaning g.W.Watch.watching l.scene in
    (dug X l.initial.self.places (l.allowed - l.turn) (state_of l.self) ≡ dug X l.initial.self.places l.allowed (state_of l.initial.self))
    × Grown l.initial.self l.self
