use Rattle.std.proofs.Common.{◌∙◌}
use Rattle.recipe.proofs.Standing.{methods_count}
use Rattle.recipe.proofs.Recipe.methods.Goals as goal

pub returns : goal.returns
returns c = c.into.ensures ∙ methods_count c.args.self.now
