use Rattle.std.proofs.Common.{refl}
use Rattle.model.specs.Program.{home}
use Rattle.samples.specs.RecipeA.{owners_a}
use Rattle.samples.proofs.recipe_a.owners.Goals as goal

pub returns : goal.returns
unfolding owners_a home
returns c = refl
