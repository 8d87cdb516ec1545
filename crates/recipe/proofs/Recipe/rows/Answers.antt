use Rattle.std.proofs.Common.{◌∙◌}
use Rattle.recipe.proofs.Standing.{rows_count}
use Rattle.recipe.proofs.Recipe.rows.Goals as goal

pub returns : goal.returns
returns c = c.into.ensures ∙ rows_count c.args.self.now
