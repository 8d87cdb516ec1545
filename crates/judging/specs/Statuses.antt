-- The status that a program ends with that judges files.
use Rattle.std.specs.Prelude.{ℕ, Bool, true, false, cond, ◌&&◌, List, Ok, Err, Result}
use Rattle.std.specs.List.{list_any}
use Rattle.model.specs.declared.Verdict.{Verdict}
use Rattle.model.specs.declared.Verdict.TheVariants.{Safe, Unsafe, Full, Unfinished}
use Rattle.recipe.specs.declared.grounds.Refusal.{Refusal}
use Rattle.judging.specs.declared.statuses.Status.{Status}
use Rattle.judging.specs.declared.statuses.Status.TheVariants.{AllSafe, NotSafe, NotJudged}
use Rattle.judging.specs.Judged.{Found}

abbrev pub is_safe : Verdict → Bool
is_safe Safe = true
is_safe Unsafe = false
is_safe Full = false
is_safe Unfinished = false

-- what became of a file: both verdicts are safe, one is not, or there are none
abbrev pub status_of : Result (Found × Found) Refusal → Status
status_of (Ok found) = cond (is_safe found.0.report.verdict && is_safe found.1.report.verdict) AllSafe NotSafe
status_of (Err e) = NotJudged

abbrev pub is_not_safe : Status → Bool
is_not_safe AllSafe = false
is_not_safe NotSafe = true
is_not_safe NotJudged = false

abbrev pub is_not_judged : Status → Bool
is_not_judged AllSafe = false
is_not_judged NotSafe = false
is_not_judged NotJudged = true

-- after several files: 2 where one was not judged, else 1 where one has a verdict that is not safe, else 0
abbrev pub exit_status : List Status → ℕ
exit_status files = cond (list_any is_not_judged files) 2 (cond (list_any is_not_safe files) 1 0)
