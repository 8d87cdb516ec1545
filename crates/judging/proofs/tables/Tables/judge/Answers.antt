use Rattle.std.proofs.Common.{◌≡◌, length, drop, Ok, Err, MatchResult, sym, ap, ◌∙◌, subst, rules}
use Rattle.std.proofs.lemmas.List.{take_at}
use Rattle.std.proofs.lemmas.Result.{err_from_is_err_and}
use Rattle.recipe.specs.Format.{Legal}
use Rattle.recipe.specs.declared.grounds.Refusal.{Refusal}
use Rattle.inquiry.specs.Calls.{answered, unless}
use Rattle.inquiry.proofs.Allowed.{refused_so, answered_so}
use Rattle.judging.specs.declared.Judgement.{Judgement}
use Rattle.judging.specs.Judged.{usual, sizes_of, shown, shown_both, both_in, may_judge, judgement_in, judgement_of, outcomes_of, with_trace, JudgedRight}
use Rattle.judging.specs.Parts.{nodes_written}
use Rattle.judging.proofs.Fitting.{written_is, not_legal}
use Rattle.judging.proofs.tables.Tables.judge.Goals as goal

pub returns-in_err-outcomes : goal.returns-in_err-outcomes
returns-in_err-outcomes c =
    let bs = c.args.file.now in
    let n : length c.deref_mut.result.now ≡ 1024 = search rules in
    let m : length c.deref_mut-2.result.now ≡ 4096 = search rules in
    let h : length c.deref_mut-3.result.now ≡ 1024 = search rules in
    let s : length c.deref_mut-4.result.now ≡ 1024 = search rules in
    let z = sizes_of c.deref_mut.result.now c.deref_mut-2.result.now c.deref_mut-3.result.now c.deref_mut-4.result.now in
    let sizes : z ≡ usual = λ i. record { facts = n i; edges = m i; history = h i; stack = s i } in
    let both = both_in z bs in
    let right = subst (λ y. JudgedRight y bs (judgement_in y bs)) sizes c.judge_in.ensures.tells in
    let refused = refused_so (may_judge z bs) _ c.in_err-outcomes.field-0.0 (sym c.in_err-outcomes.was ∙ c.judge_in.ensures.answer) in
    let judged : judgement_of bs ≡ Err c.in_err-outcomes.field-0.0 = ap (λ y. judgement_in y bs) (sym sizes) ∙ ap (λ o. answered o both) refused in
    let e = err_from_is_err_and c.from_residual.result c.from_residual.ensures.1 in
    let is = sym (e.1 ∙ ap Err e.2) in
    record {
      answer = subst (λ r. MatchResult r (λ (j : Judgement). judgement_of bs ≡ Ok (shown_both j)) (λ (e : Refusal). judgement_of bs ≡ Err e)) is judged;
      tells = subst (λ r. MatchResult r (λ (j : Judgement). JudgedRight usual bs (Ok (shown_both j))) (λ (e : Refusal). Legal bs → ⊥)) is (not_legal bs _ judged right);
    }

pub returns : goal.returns
returns c =
    let bs = c.args.file.now in
    let n : length c.deref_mut.result.now ≡ 1024 = search rules in
    let m : length c.deref_mut-2.result.now ≡ 4096 = search rules in
    let h : length c.deref_mut-3.result.now ≡ 1024 = search rules in
    let s : length c.deref_mut-4.result.now ≡ 1024 = search rules in
    let z = sizes_of c.deref_mut.result.now c.deref_mut-2.result.now c.deref_mut-3.result.now c.deref_mut-4.result.now in
    let sizes : z ≡ usual = λ i. record { facts = n i; edges = m i; history = h i; stack = s i } in
    let both = both_in z bs in
    let right = subst (λ y. JudgedRight y bs (judgement_in y bs)) sizes c.judge_in.ensures.tells in
    let good = answered_so (may_judge z bs) (outcomes_of both) c.in_ok-outcomes.outcomes (sym c.in_ok-outcomes.was ∙ c.judge_in.ensures.answer) in
    let history : c.judge_in.new.history ≡ with_trace both.0.trace c.deref_mut-3.result.now = c.judge_in.ensures.history ∙ ap (λ o. unless o (with_trace both.0.trace c.deref_mut-3.result.now) c.deref_mut-3.result.now) good.1 in
    let stack : c.judge_in.new.stack ≡ with_trace both.1.trace c.deref_mut-4.result.now = c.judge_in.ensures.stack ∙ ap (λ o. unless o (with_trace both.1.trace c.deref_mut-4.result.now) c.deref_mut-4.result.now) good.1 in
    let history_long : length c.judge_in.new.history ≡ c.args.self.history.len = search rules in
    let stack_long : length c.judge_in.new.stack ≡ c.args.self.stack.len = search rules in
    let history_kept = take_at c.judge_in.new.history (drop (length c.judge_in.new.history) c.args.self.history.items) c.args.self.history.len history_long ∙ history in
    let stack_kept = take_at c.judge_in.new.stack (drop (length c.judge_in.new.stack) c.args.self.stack.items) c.args.self.stack.len stack_long ∙ stack in
    let found_history : shown c.finding.result ≡ both.0 =
    c.finding.ensures ∙ (λ i. record { report = (good.0 i).history.report; trace = nodes_written (history_kept i) (good.0 i).history.trace }) ∙ ap (λ t. record { report = both.0.report; trace = t }) (written_is both.0.trace c.deref_mut-3.result.now) in
    let found_stack : shown c.finding-2.result ≡ both.1 =
    c.finding-2.ensures ∙ (λ i. record { report = (good.0 i).stack.report; trace = nodes_written (stack_kept i) (good.0 i).stack.trace }) ∙ ap (λ t. record { report = both.1.report; trace = t }) (written_is both.1.trace c.deref_mut-4.result.now) in
    let judged : judgement_of bs ≡ Ok (shown c.finding.result, shown c.finding-2.result) = ap (λ y. judgement_in y bs) (sym sizes) ∙ ap (λ o. answered o both) good.1 ∙ sym (λ i. Ok (found_history i, found_stack i)) in
    record { answer = judged; tells = subst (JudgedRight usual bs) judged right }
