use Rattle.std.proofs.Common.{◌≡◌, ◌+◌, ◌++◌, drop, take}
use Rattle.std.specs.String.{string_bytes}
use Rattle.rules.specs.Subjects.{setting_of}
use Rattle.following.specs.Told.{rest_text}
use Rattle.following.proofs.telling.walk_on.Given as goal

-- the text so far, and what is said of the rest
abbrev pub invariant-loop-i : goal.invariant-loop-i
invariant-loop-i g l =
    let X = setting_of g.R.AccessRule.meaning g.W.Watch.watching l.on (take 4096 l.edges) in
    string_bytes l.text ++ rest_text X (drop l.i l.others) (l.i + 1) (record { at = l.step; stack = l.stack })
    ≡ string_bytes l.initial.text ++ rest_text X l.others 1 (record { at = l.initial.step; stack = l.initial.stack })
