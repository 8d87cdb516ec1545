use Rattle.std.proofs.Common.{◌≡◌, ◌++◌, None, Err, sym, ap, ◌∙◌, subst, rules}
use Rattle.std.proofs.lemmas.Result.{err_from_is_err_and}
use Rattle.recipe.specs.Format.{Legal}
use Rattle.recipe.specs.Offence.{first_offence, take_tests, check_tests}
use Rattle.judging.specs.Judged.{Answers}
use Rattle.judging.proofs.Fitting.{judged_so}
use Rattle.judging.proofs.tables.judge.Goals as goal

pub returns-in_err-tables-clause-answer : goal.returns-in_err-tables-clause-answer
returns-in_err-tables-clause-answer c =
    let bs = c.args.file.now in
    let none : first_offence (take_tests bs ++ check_tests bs) ≡ None = search rules in
    let legal : Legal bs = search rules in
    let e = err_from_is_err_and c.from_residual-in_err-tables.result c.from_residual-in_err-tables.ensures.1 in
    subst (Answers bs) (sym (e.1 ∙ ap Err e.2)) (judged_so bs legal none)
