use Rattle.std.proofs.Common.{[], refl}
use Rattle.std.proofs.lemmas.Result.{IfOk-at_ok}
use Rattle.recipe.specs.Format.{bytes_of}
use Rattle.recipe.specs.Recipes.{smallest}
use Rattle.recipe.proofs.Smallest.{smallest_lawful}
use Rattle.recipe.proofs.Verdicts.{legal_taken}
use Rattle.recipe.proofs.Layout.built_in.Goals as goal

pub unwrap-requires : goal.unwrap-requires
unfolding bytes_of
unwrap-requires c = legal_taken _ _ c.read.ensures.answer (smallest, [], smallest_lawful, refl)

pub returns : goal.returns
unfolding bytes_of
returns c = IfOk-at_ok _ c.unwrap.ensures c.read.ensures.held
