use Rattle.std.proofs.Common.{◌∙◌}
use Rattle.recipe.proofs.Standing.{nodes_count}
use Rattle.recipe.proofs.Recipe.nodes.Goals as goal

pub returns : goal.returns
returns c = c.into.ensures ∙ nodes_count c.args.self.now
