use Rattle.std.proofs.Common.{◌≡◌, length, Ok, Err, sym, ap, ◌∙◌}
use Rattle.std.proofs.lemmas.Result.{err_from_is_err_and}
use Rattle.recipe.specs.Recipes.{file_of}
use Rattle.recipe.specs.Bytes.{edges_of}
use Rattle.model.specs.Tables.{Search, dug, opened}
use Rattle.inquiry.specs.Calls.{answered, unless, report_of}
use Rattle.inquiry.proofs.Allowed.{refused_so, answered_so}
use Rattle.inquiry.specs.declared.requests.Reply.TheVariants.{Dug}
use Rattle.inquiry.specs.Histories.{fit_of, after, output_after}
use Rattle.judging.specs.Judged.{setting_in, searched, found_by, found_in, outcome_of, over, with_trace}
use Rattle.judging.proofs.Fitting.{case_in, all_asked, few_if_fit, all_worked, left_so, search_is, edges_are, output_is, reply_is}
use Rattle.judging.proofs.deciding.inquired.Goals as goal

pub returns-in_err-report : goal.returns-in_err-report
returns-in_err-report g c =
    let rule = g.R.AccessRule.meaning c.args.rule.now in
    let bs = file_of c.args.recipe.now in
    let n = length c.args.facts.now in
    let out = c.args.output.now in
    let C = case_in rule bs n (length c.args.edges.now) out c.min-allowed.result in
    let asked = all_asked rule bs n (length c.args.edges.now) out c.min-allowed.result in
    let refused = refused_so (fit_of C) _ c.in_err-report.field-0.0 (sym c.in_err-report.was ∙ c.ask.ensures.answer) in
    let e = err_from_is_err_and c.from_residual.result c.from_residual.ensures.1 in
    let found = found_in rule n (length out) bs in
    record {
      answer = e.1 ∙ ap Err e.2 ∙ sym (ap (λ o. answered o (outcome_of found)) refused);
      facts = c.ask.ensures.facts ∙ left_so (fit_of C) _ (over (after C asked).search.rows c.args.facts.now) (over (searched rule n bs).rows c.args.facts.now) c.args.facts.now refused;
      edges = c.ask.ensures.edges ∙ left_so (fit_of C) _ (over (after C asked).edges c.args.edges.now) (over (edges_of bs) c.args.edges.now) c.args.edges.now refused;
      output = c.ask.ensures.output ∙ left_so (fit_of C) _ (output_after C asked out) (with_trace found.trace out) out refused;
    }

pub returns : goal.returns
returns g c =
    let rule = g.R.AccessRule.meaning c.args.rule.now in
    let bs = file_of c.args.recipe.now in
    let X = setting_in rule bs in
    let n = length c.args.facts.now in
    let m = length c.args.edges.now in
    let out = c.args.output.now in
    let C = case_in rule bs n m out c.min-allowed.result in
    let k = c.min-allowed.result in
    let asked = all_asked rule bs n m out k in
    let good = answered_so (fit_of C) (report_of C.watch (after C asked).search) c.in_ok-report.report (sym c.in_ok-report.was ∙ c.ask.ensures.answer) in
    let few = few_if_fit X (length (edges_of bs)) n m good.1 in
    let all : k ≡ n = c.min-allowed.ensures ∙ all_worked n few in
    let search : (after C asked).search ≡ searched rule n bs = search_is rule bs n m out k ∙ ap (λ j. dug X n j (opened X n)) all in
    let report : c.in_ok-report.report ≡ report_of X.watch (searched rule n bs) = good.0 ∙ ap (report_of X.watch) search in
    let log = c.ask.ensures.replies in
    let trace = c.written-trace.ensures ∙ reply_is rule bs n m out k (fit_of C) c.ask.new.replies (Ok (Dug (record { finished = 0; held = 0 }))) good.1 log ∙ ap (λ j. (outcome_of (found_by X (dug X n j (opened X n)) (length out))).trace) all in
    let found = found_in rule n (length out) bs in
    record {
      answer = (λ i. Ok (record { report = report i; trace = trace i })) ∙ sym (ap (λ o. answered o (outcome_of found)) good.1);
      facts = c.ask.ensures.facts ∙ ap (λ (s : Search). unless (fit_of C) (over s.rows c.args.facts.now) c.args.facts.now) search;
      edges = c.ask.ensures.edges ∙ ap (λ es. unless (fit_of C) (over es c.args.edges.now) c.args.edges.now) (edges_are rule bs n m out k);
      output = c.ask.ensures.output ∙ ap (λ o. unless (fit_of C) o out) (output_is rule bs n m out k ∙ ap (λ j. with_trace (found_by X (dug X n j (opened X n)) (length out)).trace out) all);
    }
