-- What a record tells of runs it tells of the traces of a transition system that models the rule.
use Rattle.std.proofs.Common.{◌≡◌, ℕ, ◌≤◌, List, ◌++◌, length, drop, reverse, Ok, Err, Result, IfOk, sym, subst, arith}
use Rattle.std.proofs.lemmas.List.{reverse-reverse}
use Rattle.model.specs.declared.Edge.{Edge}
use Rattle.model.specs.declared.Fact.{Fact}
use Rattle.model.specs.declared.Verdict.{Verdict as Outcome}
use Rattle.model.specs.Agreement.{RunTrace}
use Rattle.model.specs.Facts.{Setting, RunIn}
use Rattle.model.specs.Lawful.{EdgesObey}
use Rattle.model.specs.Program.{Program}
use Rattle.model.proofs.Agreeing.{bad_run, bad_trace}
use Rattle.recipe.specs.declared.grounds.Refusal.{Refusal}
use Rattle.inquiry.specs.declared.reports.Report.{Report}
use Rattle.inquiry.specs.declared.requests.Reply.{Reply}
use Rattle.inquiry.specs.declared.requests.Request.{Request}
use Rattle.inquiry.specs.Calls.{Allowed, answered, report_of}
use Rattle.inquiry.specs.Histories.{Opened, fit_of, after}
use Rattle.asking.specs.Asked.{recorded, report_left, replies_left}
use Rattle.asking.specs.Law.{IsRight}
use Rattle.asking.specs.Modelled.{IsRightOf, RecordModels}
use Rattle.asking.specs.Recorded.{linked_at, RecordTells}
use Rattle.asking.proofs.Telling.{linked_obeys}

module _ (traces : Program → List Edge → List ℕ → Type 0) (C : Opened) (rs : List Request) (log : List (Result Reply Refusal)) (facts : List Fact) (output : List ℕ) (report : Report) (told : RecordTells C rs log facts output report)
    (agrees : (es : List Edge) (t : List ℕ) → EdgesObey C.program es → (traces C.program es t → RunTrace C.program es C.rule C.watch t) × (RunTrace C.program es C.rule C.watch t → traces C.program es t))
    (obeys : (i : ℕ) → i ≤ length rs → EdgesObey C.program (linked_at C rs log i).edges) where
  -- the recipe as it was linked when the first i requests had been made
  abbrev then : ℕ → Setting
  then i = linked_at C rs log i

  -- its traces are those of its runs
  same_then : (i : ℕ) → i ≤ length rs → (t : List ℕ) → (traces C.program (then i).edges t → RunTrace C.program (then i).edges C.rule C.watch t) × (RunTrace C.program (then i).edges C.rule C.watch t → traces C.program (then i).edges t)
  same_then i le t = agrees (then i).edges t (obeys i le)

  -- what is right of its runs is right of them
  right_of : (i : ℕ) (v : Outcome) → i ≤ length rs → IsRight (then i) C.places v → IsRightOf (traces C.program (then i).edges) C v
  right_of i v le h = record {
    safe = λ e t trace bad. h.safe e (bad_run (then i) (traces C.program (then i).edges) (same_then i le) t trace bad);
    unsafe = λ e.
        let run = h.unsafe e in
        let shown = bad_trace (then i) (traces C.program (then i).edges) (same_then i le) (reverse run.0) (run.1, run.2, subst (λ ns. RunIn (then i) ns run.1 run.2) (sym (reverse-reverse run.0)) run.3, run.4) in
        (reverse run.0, shown.0, shown.1);
  }

  pub record_models : RecordModels traces C rs log output report
  record_models = record {
    right = λ i v lt e. right_of i v (omega arith) (told.right i v lt e);
    reports = right_of (length rs) report.verdict (omega arith) told.reports;
    shown = λ i lt bad.
        let shown = told.shown i lt bad in
        let trace = λ (j : ℕ) (le : i ≤ j) (few : j ≤ length rs). bad_trace (then j) (traces C.program (then j).edges) (same_then j few) shown.0 (shown.1.bad j le few) in
        (shown.0, (trace i (omega arith) (omega arith)).1, (λ j le few. (trace j le few).0), shown.1.traces);
  }

module _ (traces : Program → List Edge → List ℕ → Type 0) (C : Opened) (rs : List Request) (log old : List (Result Reply Refusal)) (facts : List Fact) (output : List ℕ) (r : Result Report Refusal)
    (agrees : (es : List Edge) (t : List ℕ) → EdgesObey C.program es → (traces C.program es t → RunTrace C.program es C.rule C.watch t) × (RunTrace C.program es C.rule C.watch t → traces C.program es t)) where
  -- where the tables fit there is a report, and the record tells of the traces
  models_by : (o : Allowed) (a : Result Report Refusal) → log ≡ recorded o C rs ++ drop (length rs) old → a ≡ answered o (report_of C.watch (after C rs).search) → IfOk a (RecordTells C rs log facts output) → IfOk a (RecordModels traces C rs log output)
  models_by (Ok u) (Ok report) log_is answer told = record_models traces C rs log facts output report told agrees (λ i le. linked_obeys C rs log (drop (length rs) old) log_is i le)
  models_by o (Err e) log_is answer told = tt
  models_by (Err e) (Ok report) log_is answer told = absurd (let z : ◌≡◌ {A = ℕ} 0 1 = cc in omega arith)

  pub ask_models : log ≡ replies_left C rs old → r ≡ report_left C rs → IfOk r (RecordTells C rs log facts output) → IfOk r (RecordModels traces C rs log output)
  ask_models log_is answer told = models_by (fit_of C) r log_is answer told
