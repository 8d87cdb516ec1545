-- What a call that carries out requests makes of them, and what it leaves.
use Rattle.std.specs.Prelude.{ℕ, min, List, map, ◌++◌, length, take, drop, Ok, Err, Result}
use Rattle.model.specs.declared.Edge.{Edge}
use Rattle.model.specs.declared.Fact.{Fact}
use Rattle.recipe.specs.declared.grounds.Refusal.{Refusal}
use Rattle.inquiry.specs.Calls.{Allowed, answered, unless, report_of}
use Rattle.inquiry.specs.Histories.{Opened, fit_of, after, replies, output_after}
use Rattle.inquiry.specs.declared.reports.Report.{Report}
use Rattle.inquiry.specs.declared.requests.Request.{Request}
use Rattle.inquiry.specs.declared.requests.Request.TheVariants.{Trace}
use Rattle.inquiry.specs.declared.requests.Reply.{Reply}

-- a request, as it is made with an output of so many places: a trace has no more room than these
abbrev pub within : ℕ → Request → Request
within places (Trace room) = Trace (min room places)
within places r = r

-- the requests that are made, in order: as many as there are places for replies
abbrev pub made_of : List (Result Reply Refusal) → List ℕ → List Request → List Request
made_of replies output rs = map (within (length output)) (take (length replies) rs)

-- what is recorded: each answer; or, where the tables do not fit, that refusal for every request
abbrev pub recorded : Allowed → Opened → List Request → List (Result Reply Refusal)
recorded (Ok u) C rs = replies C rs
recorded (Err e) C rs = map (λ r. Err e) rs

-- the report at the end
abbrev pub report_left : Opened → List Request → Result Report Refusal
report_left C rs = answered (fit_of C) (report_of C.watch (after C rs).search)

-- the places for replies: what is recorded, and behind that what they held
abbrev pub replies_left : Opened → List Request → List (Result Reply Refusal) → List (Result Reply Refusal)
replies_left C rs old = recorded (fit_of C) C rs ++ drop (length rs) old

-- the tables of facts and of edges: what is held and in use, and behind that what they held; untouched where they do not fit
abbrev pub facts_left : Opened → List Request → List Fact → List Fact
facts_left C rs old = let rows = (after C rs).search.rows in unless (fit_of C) (rows ++ drop (length rows) old) old

abbrev pub edges_left : Opened → List Request → List Edge → List Edge
edges_left C rs old = let used = (after C rs).edges in unless (fit_of C) (used ++ drop (length used) old) old

-- the output: what the traces wrote that were not refused
abbrev pub output_left : Opened → List Request → List ℕ → List ℕ
output_left C rs old = unless (fit_of C) (output_after C rs old) old
