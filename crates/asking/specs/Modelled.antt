-- What the record of requests says under a rule that a transition system models, with no word of runs.
use Rattle.std.specs.Prelude.{◌≡◌, ℕ, ◌<◌, ◌≤◌, List, length, Ok, Result}
use Rattle.model.specs.declared.Edge.{Edge}
use Rattle.model.specs.declared.Verdict.{Verdict as Outcome}
use Rattle.model.specs.declared.Verdict.TheVariants.{Safe, Unsafe}
use Rattle.model.specs.Models.{LeavesBad}
use Rattle.model.specs.Program.{Program}
use Rattle.recipe.specs.declared.grounds.Refusal.{Refusal}
use Rattle.inquiry.specs.declared.reports.Report.{Report}
use Rattle.inquiry.specs.declared.requests.Reply.{Reply}
use Rattle.inquiry.specs.declared.requests.Reply.TheVariants.{Judged}
use Rattle.inquiry.specs.declared.requests.Request.{Request}
use Rattle.inquiry.specs.declared.requests.Request.TheVariants.{Trace}
use Rattle.inquiry.specs.Histories.{Opened}
use Rattle.asking.specs.Recorded.{request_at, reply_at, linked_at, ShowsBad, TraceAnswer}

-- a verdict is right of the traces that a system has of a program and edges: safe where none leaves the watch bad, unsafe where one does
pub record IsRightOf (traces : List ℕ → Type 0) (C : Opened) (v : Outcome) : Type 0 where
  pub safe : v ≡ Safe → (t : List ℕ) → traces t → LeavesBad C.program C.watch t → ⊥
  pub unsafe : v ≡ Unsafe → (t : List ℕ) × traces t × LeavesBad C.program C.watch t

-- what the replies to some requests, and the report, say of the traces that a system has
pub record RecordModels (traces : Program → List Edge → List ℕ → Type 0) (C : Opened) (rs : List Request) (log : List (Result Reply Refusal)) (output : List ℕ) (report : Report) : Type 0 where
  -- a verdict is right of the traces of the recipe as it was linked then
  pub right : (i : ℕ) (v : Outcome) → i < length rs → reply_at log i ≡ Ok (Judged v) → IsRightOf (traces C.program (linked_at C rs log i).edges) C v
  pub reports : IsRightOf (traces C.program (linked_at C rs log (length rs)).edges) C report.verdict
  -- once a bad fact was shown there is one list, a trace that leaves the watch bad, of the recipe as it is linked at each later time; and each trace asked for then is this one
  pub shown : (i : ℕ) → i < length rs → ShowsBad (reply_at log i)
      → (t : List ℕ) × LeavesBad C.program C.watch t × ((j : ℕ) → i ≤ j → j ≤ length rs → traces C.program (linked_at C rs log j).edges t)
      × ((j room : ℕ) → i ≤ j → j < length rs → request_at rs j ≡ Trace room → TraceAnswer t room output (reply_at log j))
