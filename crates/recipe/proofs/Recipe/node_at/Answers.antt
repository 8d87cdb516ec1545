use Rattle.std.proofs.lemmas.Option.{unwrap_or-slice_get}
use Rattle.model.specs.Program.{no_node}
use Rattle.recipe.specs.Recipes.{program}
use Rattle.recipe.proofs.Recipe.node_at.Goals as goal

pub returns : goal.returns
returns c = let e = unwrap_or-slice_get (program c.args.self.now).nodes c.args.n no_node in cc
