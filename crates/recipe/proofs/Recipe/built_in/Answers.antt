use Rattle.std.proofs.Common.{[], ap, ◌∙◌}
use Rattle.recipe.specs.Offence.{first_offence, check_tests}
use Rattle.recipe.specs.Recipes.{smallest}
use Rattle.recipe.proofs.ReadBack.{check_passes}
use Rattle.recipe.proofs.Smallest.{smallest_lawful}
use Rattle.recipe.proofs.Recipe.built_in.Goals as goal

pub invariant_of-result : goal.invariant_of-result
invariant_of-result c = record { passes = ap (λ bs. first_offence (check_tests bs)) c.built_in.ensures ∙ check_passes smallest [] smallest_lawful }
