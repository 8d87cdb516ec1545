use Rattle.std.proofs.Common.{◌≡◌, ◌+◌, drop, take, Ok}
use Rattle.rules.specs.Subjects.{setting_of}
use Rattle.walker.specs.Walking.{replay_from}
use Rattle.walker.proofs.replaying.walk_along.Given as goal

-- what is left of the list gives the rest of the walk
abbrev pub invariant-loop-i : goal.invariant-loop-i
invariant-loop-i g l =
    let X = setting_of g.R.AccessRule.meaning g.W.Watch.watching l.on (take 4096 l.edges) in
    replay_from X.program X.edges X.rule X.watch (drop l.i-counter l.others) (l.i-counter + 1) (record { at = Ok l.at; stack = l.stack })
    ≡ replay_from X.program X.edges X.rule X.watch l.others 1 (record { at = Ok l.initial.at; stack = l.initial.stack })
