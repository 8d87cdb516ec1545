-- What the bytes of a file come to.
use Rattle.std.specs.Prelude.{◌≡◌, ◌≢◌, ℕ, ◌<◌, ◌≤◌, false, cond, ◌⊎◌, List, ◌++◌, length, drop, Some, None, Ok, Err, Option, Result}
use Rattle.std.specs.declared.vec.Vec.{Vec}
use Rattle.std.specs.declared.alloc.Global.{Global}
use Rattle.model.specs.Access.{Rule, history, stack_inspection}
use Rattle.model.specs.Facts.{Setting}
use Rattle.model.specs.Lawful.{Lawful}
use Rattle.model.specs.Models.{HistoryTrace, StackTrace, LeavesBad}
use Rattle.model.specs.Program.{Program, counted}
use Rattle.model.specs.Searches.{BadTrace, first_trace}
use Rattle.model.specs.Tables.{Search, capped, opened, dug}
use Rattle.model.specs.Watches.{table_watch}
use Rattle.model.specs.declared.Edge.{Edge}
use Rattle.model.specs.declared.Fact.{Fact}
use Rattle.model.specs.declared.Verdict.TheVariants.{Safe, Unsafe}
use Rattle.recipe.specs.Bytes.{program_of, edges_of}
use Rattle.recipe.specs.Format.{bytes_of, Legal as LegalFile}
use Rattle.recipe.specs.Offence.{first_offence, take_tests, check_tests}
use Rattle.recipe.specs.declared.grounds.Refusal.{Refusal}
use Rattle.recipe.specs.declared.grounds.Refusal.TheVariants.{UnfitTable, NotUnsafe, LongTrace}
use Rattle.inquiry.specs.Calls.{Allowed, answered, tables_fit, report_of, trace_allowed}
use Rattle.inquiry.specs.Promises.{Comes}
use Rattle.inquiry.specs.declared.reports.Report.{Report}
use Rattle.judging.specs.declared.Finding.{Finding}
use Rattle.judging.specs.declared.Judgement.{Judgement}
use Rattle.judging.specs.declared.Outcome.{Outcome}
use Rattle.judging.specs.declared.Outcomes.{Outcomes}
use Rattle.judging.specs.declared.errors.JudgeError.{JudgeError}
use Rattle.judging.specs.declared.errors.JudgeError.TheVariants.{Refused, OutOfMemory}

-- how many places a judging is lent: for facts, for edges, and for the trace under each rule
pub record Sizes : Type 0 where
  pub facts : ℕ
  pub edges : ℕ
  pub history : ℕ
  pub stack : ℕ

abbrev pub sizes_of : List Fact → List Edge → List ℕ → List ℕ → Sizes
sizes_of facts edges history stack = record { facts = length facts; edges = length edges; history = length history; stack = length stack }

-- those that the call takes that gets its memory itself
abbrev pub usual : Sizes
usual = record { facts = 1024; edges = 4096; history = 1024; stack = 1024 }

-- a file's program with those of its own edges that count, under a rule, with the watch of its own rows
abbrev pub setting_in : (Program → Rule) → List ℕ → Setting
setting_in rule bs = record { program = program_of bs; edges = counted (program_of bs) (edges_of bs); rule = rule (program_of bs); watch = table_watch (program_of bs).rows }

-- its search in a table of so many places, when as many facts were worked
abbrev pub searched : (Program → Rule) → ℕ → List ℕ → Search
searched rule places bs = dug (setting_in rule bs) places places (opened (setting_in rule bs) places)

-- what is found under a rule: the report, and the trace of the first bad fact, or why there is none
pub record Found : Type 0 where
  pub report : Report
  pub trace : Result (List ℕ) Refusal

abbrev pub found_by : Setting → Search → ℕ → Found
found_by X s room = record { report = report_of X.watch s; trace = answered (trace_allowed X.watch s room) (first_trace X.watch s.rows) }

-- with so many places for facts, and for the trace
abbrev pub found_in : (Program → Rule) → ℕ → ℕ → List ℕ → Found
found_in rule places room bs = found_by (setting_in rule bs) (searched rule places bs) room

-- under both rules
abbrev pub both_in : Sizes → List ℕ → Found × Found
both_in z bs = (found_in history z.facts z.history bs, found_in stack_inspection z.facts z.stack bs)

-- the tables fit: the edge table has room for the file's edges, and neither is too long
abbrev pub room_in : Sizes → List ℕ → Allowed
room_in z bs = cond (tables_fit (length (edges_of bs)) z.facts z.edges) (Ok tt) (Err UnfitTable)

-- an offence comes first
abbrev pub refused_first : Option Refusal → Allowed → Allowed
refused_first None other = other
refused_first (Some e) other = Err e

-- whether a file is judged: the refusal of its first offence, or whether the tables fit
abbrev pub may_judge : Sizes → List ℕ → Allowed
may_judge z bs = refused_first (first_offence (take_tests bs ++ check_tests bs)) (room_in z bs)

-- what a file comes to in memory of these sizes, and in that of the usual ones
abbrev pub judgement_in : Sizes → List ℕ → Result (Found × Found) Refusal
judgement_in z bs = answered (may_judge z bs) (both_in z bs)

abbrev pub judgement_of : List ℕ → Result (Found × Found) Refusal
judgement_of bs = judgement_in usual bs

-- what a judging answers of what it finds: the report, and how many nodes of the trace it has written
abbrev pub told_length : Result (List ℕ) Refusal → Result ℕ Refusal
told_length (Ok ns) = Ok (length ns)
told_length (Err e) = Err e

abbrev pub outcome_of : Found → Outcome
outcome_of f = record { report = f.report; trace = told_length f.trace }

abbrev pub outcomes_of : Found × Found → Outcomes
outcomes_of found = record { history = outcome_of found.0; stack = outcome_of found.1 }

-- a buffer with a list in its first places
abbrev pub over : {A : Type 0} → List A → List A → List A
over xs old = xs ++ drop (length xs) old

-- an output with the trace in its first places, if there is one
abbrev pub with_trace : Result (List ℕ) Refusal → List ℕ → List ℕ
with_trace (Ok ns) old = over ns old
with_trace (Err e) old = old

-- a fact table that both searches were made in, one after the other
abbrev pub rows_in : ℕ → List ℕ → List Fact → List Fact
rows_in places bs old = over (searched stack_inspection places bs).rows (over (searched history places bs).rows old)

-- a finding, as a list of nodes stands in it
abbrev pub nodes_in : Result (Vec ℕ Global) Refusal → Result (List ℕ) Refusal
nodes_in (Ok nodes) = Ok nodes.items
nodes_in (Err e) = Err e

abbrev pub shown : Finding → Found
shown f = record { report = f.report; trace = nodes_in f.trace }

abbrev pub shown_both : Judgement → Found × Found
shown_both j = (shown j.history, shown j.stack)

-- a call that gets its memory itself answers what the file comes to; only where there is a judgement can memory run out
abbrev pub Answers : List ℕ → Result Judgement JudgeError → Type 0
Answers bs (Ok j) = judgement_of bs ≡ Ok (shown_both j)
Answers bs (Err (Refused e)) = judgement_of bs ≡ Err e
Answers bs (Err OutOfMemory) = judgement_of bs ≡ Ok (both_in usual bs)

-- a trace that is not written has more nodes than there is room for, or than can be told
abbrev pub TooLong : List ℕ → ℕ → Type 0
TooLong t room = (room < length t) ⊎ (4294967295 ≤ length t)

-- at unsafe there is the trace of a bad run, or it is too long and its length is told, capped; else there is none
pub record Shows (X : Setting) (room : ℕ) (f : Found) : Type 0 where
  pub unsafe : f.report.verdict ≡ Unsafe → (t : List ℕ) × BadTrace X t × ((f.trace ≡ Ok t) ⊎ ((f.trace ≡ Err (LongTrace (capped (length t)))) × TooLong t room))
  pub none : f.report.verdict ≢ Unsafe → f.trace ≡ Err NotUnsafe

-- the same with no word of runs, said of the traces that a transition system has of a program and its edges: safe, none of them leaves the watch of the program's rows bad; unsafe, one does, and it is there, or is too long
pub record ByModel (traces : List ℕ → Type 0) (p : Program) (room : ℕ) (f : Found) : Type 0 where
  pub safe : f.report.verdict ≡ Safe → (t : List ℕ) → traces t → LeavesBad p (table_watch p.rows) t → ⊥
  pub unsafe : f.report.verdict ≡ Unsafe → (t : List ℕ) × traces t × LeavesBad p (table_watch p.rows) t × ((f.trace ≡ Ok t) ⊎ ((f.trace ≡ Err (LongTrace (capped (length t)))) × TooLong t room))

-- what is found is right, of every run of the recipe under that rule; and of every trace that the transition system which models the rule has of the program and edges that the file was written for
pub record RightOf (rule : Program → Rule) (Traces : Program → List Edge → List ℕ → Type 0) (places room : ℕ) (bs : List ℕ) (f : Found) : Type 0 where
  pub comes : Comes (setting_in rule bs) places places (searched rule places bs) f.report
  pub shows : Shows (setting_in rule bs) room f
  pub by_model : (p : Program) (es : List Edge) → Lawful p es → bs ≡ bytes_of p es → ByModel (Traces p es) p room f

-- what a file comes to is right: the file is legal, and what is found is right under each rule; or the file is not legal; or it is, and the tables do not fit
abbrev pub JudgedRight : Sizes → List ℕ → Result (Found × Found) Refusal → Type 0
JudgedRight z bs (Ok found) = LegalFile bs × RightOf history HistoryTrace z.facts z.history bs found.0 × RightOf stack_inspection StackTrace z.facts z.stack bs found.1
JudgedRight z bs (Err e) = (LegalFile bs → ⊥) ⊎ (LegalFile bs × (e ≡ UnfitTable) × (tables_fit (length (edges_of bs)) z.facts z.edges ≡ false))

-- what the answer tells of a call that gets its memory itself: there the tables fit every recipe
abbrev pub Tells : List ℕ → Result Judgement JudgeError → Type 0
Tells bs (Ok j) = JudgedRight usual bs (Ok (shown_both j))
Tells bs (Err (Refused e)) = LegalFile bs → ⊥
Tells bs (Err OutOfMemory) = LegalFile bs
