use Rattle.std.proofs.Common.{◌∙◌}
use Rattle.recipe.proofs.Stages.{exit}
use Rattle.recipe.proofs.Verdicts.{legal_taken}
use Rattle.recipe.proofs.taking.take.Goals as goal

pub returns-in_err-read-clause-legal : goal.returns-in_err-read-clause-legal
returns-in_err-read-clause-legal c = legal_taken _ _ (exit _ _ c.from_residual.ensures.1 ∙ c.in_err-read.ensures.answer)
