use Rattle.std.proofs.Common.{sym, ap, ◌∙◌}
use Rattle.std.proofs.lemmas.Result.{IfOk-weaker}
use Rattle.recipe.specs.Offence.{first_offence, take_tests, check_tests}
use Rattle.recipe.proofs.Firsts.{first_of_two, second_of_two}
use Rattle.recipe.proofs.Stages.{exit}
use Rattle.recipe.proofs.Standing.{reads_as}
use Rattle.recipe.proofs.Verdicts.{untaken}
use Rattle.recipe.proofs.checking.recipe_of.Goals as goal

pub returns-in_err-read-clause-answer : goal.returns-in_err-read-clause-answer
returns-in_err-read-clause-answer c =
    let bs = c.args.file.now in
    exit _ _ c.from_residual.ensures.1 ∙ sym (first_of_two (take_tests bs) (check_tests bs) _ (sym c.in_err-read.ensures.answer))

pub returns-in_err-read-clause-legal : goal.returns-in_err-read-clause-legal
returns-in_err-read-clause-legal c = untaken c.args.file.now _ _ c.from_residual.ensures.0 c.in_err-read.ensures.answer

pub returns-clause-answer : goal.returns-clause-answer
returns-clause-answer c =
    let bs = c.args.file.now in
    c.checked.ensures.answer ∙ ap (λ f. first_offence (check_tests f)) c.in_ok-read.ensures.held ∙ sym (second_of_two (take_tests bs) (check_tests bs) (sym c.in_ok-read.ensures.answer))

pub returns-clause-means : goal.returns-clause-means
returns-clause-means c = IfOk-weaker c.checked.result _ _ (λ r e. reads_as c.args.file.now r (e ∙ c.in_ok-read.ensures.held)) c.checked.ensures.filled
