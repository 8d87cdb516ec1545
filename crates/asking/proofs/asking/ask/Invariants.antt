use Rattle.std.proofs.Common.{◌≡◌, length, map, take, drop}
use Rattle.std.specs.Slice.Iter.{iter_rest}
use Rattle.asking.specs.Asked.{within, made_of}
use Rattle.asking.proofs.Carrying.{Going}
use Rattle.asking.proofs.asking.ask.Given as goal

-- as many requests are made as were counted, and the others are left
abbrev pub invariant-loop-place : goal.invariant-loop-place
invariant-loop-place g l =
    let made = made_of l.initial.replies l.initial.output l.requests in
    let n = l.place-iterator.count in
    Going g.R.AccessRule.meaning g.W.Watch.watching l.on (length l.fn.facts) (length l.fn.edges) l.initial.output l.initial.inquiry l.initial.edges made l.initial.replies n l.inquiry l.edges l.output l.replies
    × (map (within (length l.initial.output)) (take l.place-iterator.iter.n (iter_rest l.place-iterator.iter.iter)) ≡ drop n made)
