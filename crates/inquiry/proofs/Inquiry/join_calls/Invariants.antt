use Rattle.std.proofs.Common.{◌-◌}
use Rattle.model.specs.Tables.{each_from, call_at}
use Rattle.inquiry.specs.Inquiries.{scene_of, state_of}
use Rattle.inquiry.proofs.Growing.{Going}
use Rattle.inquiry.proofs.Inquiry.join_calls.Given as goal

-- the places from this one on are left
abbrev pub invariant-loop-at : goal.invariant-loop-at
invariant-loop-at g l =
    let f = call_at (scene_of g.R.AccessRule.meaning g.W.Watch.watching l.scene) (state_of l.initial.self).rows l.back.at l.back.fact in
    Going l.initial.self l.self (each_from 0 l.back.at f) (each_from l.from l.back.at f)

abbrev pub decreases-loop-at : goal.decreases-loop-at
decreases-loop-at g l = l.back.at - l.from
