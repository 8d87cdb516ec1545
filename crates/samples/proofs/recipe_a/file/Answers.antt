use Rattle.std.proofs.Common.{refl}
use Rattle.recipe.specs.Format.{bytes_of}
use Rattle.samples.specs.RecipeA.{file_a}
use Rattle.samples.proofs.recipe_a.file.Goals as goal

pub returns-clause-bytes : goal.returns-clause-bytes
unfolding file_a bytes_of
returns-clause-bytes c = refl
