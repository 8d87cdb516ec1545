use Rattle.std.proofs.Common.{◌≡◌, length, Ok, Err, sym, refl, ap, ◌∙◌}
use Rattle.std.proofs.lemmas.Result.{err_from_is_err_and}
use Rattle.model.specs.Access.{history, stack_inspection}
use Rattle.recipe.specs.Recipes.{file_of}
use Rattle.recipe.specs.Bytes.{edges_of}
use Rattle.inquiry.specs.Calls.{Allowed, answered, unless, fit_answer}
use Rattle.inquiry.proofs.Allowed.{refused_so, answered_so}
use Rattle.judging.specs.Judged.{setting_in, searched, both_in, room_in, outcomes_of, sizes_of, over, with_trace, rows_in}
use Rattle.judging.proofs.Fitting.{fit_is, over_twice}
use Rattle.judging.proofs.deciding.inquired_twice.Goals as goal

pub returns-in_err-history : goal.returns-in_err-history
returns-in_err-history c =
    let bs = file_of c.args.recipe.now in
    let z = sizes_of c.args.facts.now c.args.edges.now c.args.history.now c.args.stack.now in
    let fit : Allowed = fit_answer (setting_in history bs) (length (edges_of bs)) z.facts z.edges in
    let refused : fit ≡ Err c.in_err-history.field-0.0 = refused_so fit _ _ (sym c.in_err-history.was ∙ c.inquired.ensures.answer) in
    let room : room_in z bs ≡ Err c.in_err-history.field-0.0 = sym (fit_is c.args.recipe.now history (λ p. refl) z) ∙ refused in
    let e = err_from_is_err_and c.from_residual.result c.from_residual.ensures.1 in
    let both = both_in z bs in
    record {
      answer = e.1 ∙ ap Err e.2 ∙ sym (ap (λ o. answered o (outcomes_of both)) room);
      facts = c.inquired.ensures.facts ∙ ap (λ o. unless o (over (searched history z.facts bs).rows c.args.facts.now) c.args.facts.now) refused ∙ sym (ap (λ o. unless o (rows_in z.facts bs c.args.facts.now) c.args.facts.now) room);
      edges = c.inquired.ensures.edges ∙ ap (λ o. unless o (over (edges_of bs) c.args.edges.now) c.args.edges.now) refused ∙ sym (ap (λ o. unless o (over (edges_of bs) c.args.edges.now) c.args.edges.now) room);
      history = c.inquired.ensures.output ∙ ap (λ o. unless o (with_trace both.0.trace c.args.history.now) c.args.history.now) refused ∙ sym (ap (λ o. unless o (with_trace both.0.trace c.args.history.now) c.args.history.now) room);
      stack = sym (ap (λ o. unless o (with_trace both.1.trace c.args.stack.now) c.args.stack.now) room);
    }

pub returns-clause-edges : goal.returns-clause-edges
returns-clause-edges c =
    let bs = file_of c.args.recipe.now in
    let own = edges_of bs in
    let old = c.args.edges.now in
    let z = sizes_of c.args.facts.now old c.args.history.now c.args.stack.now in
    let fit : Allowed = fit_answer (setting_in history bs) (length own) z.facts z.edges in
    let fit_again : Allowed = fit_answer (setting_in stack_inspection bs) (length own) (length c.inquired.new.facts) (length c.inquired.new.edges) in
    let good : fit ≡ Ok tt = (answered_so fit _ _ (sym c.in_ok-history.was ∙ c.inquired.ensures.answer)).1 in
    let good_again : fit_again ≡ Ok tt = (answered_so fit_again _ _ (sym c.in_ok-stack.was ∙ c.inquired-2.ensures.answer)).1 in
    let room : room_in z bs ≡ Ok tt = sym (fit_is c.args.recipe.now history (λ p. refl) z) ∙ good in
    let first : c.inquired.new.edges ≡ over own old = c.inquired.ensures.edges ∙ ap (λ o. unless o (over own old) old) good in
    c.inquired-2.ensures.edges ∙ ap (λ o. unless o (over own c.inquired.new.edges) c.inquired.new.edges) good_again ∙ ap (over own) first ∙ over_twice own old ∙ sym (ap (λ o. unless o (over own old) old) room)
