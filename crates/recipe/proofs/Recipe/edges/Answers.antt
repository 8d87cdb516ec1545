use Rattle.std.proofs.Common.{◌∙◌}
use Rattle.recipe.proofs.Standing.{edges_count}
use Rattle.recipe.proofs.Recipe.edges.Goals as goal

pub returns : goal.returns
returns c = c.into.ensures ∙ edges_count c.args.self.now
