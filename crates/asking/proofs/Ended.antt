-- What a call that carries out requests leaves is a record that tells the law.
use Rattle.std.proofs.Common.{◌≡◌, ℕ, List, ◌++◌, length, drop, Ok, Err, Result, IfOk, sym, ap, ◌∙◌, arith}
use Rattle.model.specs.declared.Fact.{Fact}
use Rattle.recipe.specs.declared.grounds.Refusal.{Refusal}
use Rattle.inquiry.specs.Calls.{Allowed, answered, unless, report_of}
use Rattle.inquiry.specs.declared.reports.Report.{Report}
use Rattle.inquiry.specs.declared.requests.Reply.{Reply}
use Rattle.inquiry.specs.declared.requests.Request.{Request}
use Rattle.inquiry.specs.Histories.{Opened, fit_of, after, output_after}
use Rattle.asking.specs.Asked.{recorded, report_left, replies_left, facts_left, output_left}
use Rattle.asking.specs.Recorded.{RecordTells}
use Rattle.inquiry.proofs.Allowed.{by_allowed}
use Rattle.asking.proofs.Telling.{record_tells}

module _ (C : Opened) (rs : List Request) (log old : List (Result Reply Refusal)) (facts facts_old : List Fact) (output blank : List ℕ) where
  -- where the tables fit there is a report, and what is left is a record of the law
  tells_by : (o : Allowed) (r : Result Report Refusal) → r ≡ answered o (report_of C.watch (after C rs).search) → log ≡ recorded o C rs ++ drop (length rs) old
      → facts ≡ unless o ((after C rs).search.rows ++ drop (length (after C rs).search.rows) facts_old) facts_old → output ≡ unless o (output_after C rs blank) blank → IfOk r (RecordTells C rs log facts output)
  tells_by (Ok u) (Ok report) answer log_is facts_is output_is = record_tells C rs log (drop (length rs) old) log_is blank output output_is facts (drop (length (after C rs).search.rows) facts_old) report facts_is (cc)
  tells_by o (Err e) answer log_is facts_is output_is = tt
  tells_by (Err e) (Ok report) answer log_is facts_is output_is = absurd (let z : ◌≡◌ {A = ℕ} 0 1 = cc in omega arith)

  pub ask_tells : (r : Result Report Refusal) → log ≡ replies_left C rs old → facts ≡ facts_left C rs facts_old → output ≡ output_left C rs blank → r ≡ report_left C rs → IfOk r (RecordTells C rs log facts output)
  ask_tells r log_is facts_is output_is answer = tells_by (fit_of C) r answer log_is facts_is output_is
