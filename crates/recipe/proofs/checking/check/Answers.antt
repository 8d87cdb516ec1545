use Rattle.recipe.proofs.Standing.{reads_as}
use Rattle.recipe.proofs.checking.check.Goals as goal

pub returns-clause-means : goal.returns-clause-means
returns-clause-means c = reads_as c.args.draft.layout.file.now c.in_ok-recipe.field-0 c.in_ok-recipe.ensures.filled
