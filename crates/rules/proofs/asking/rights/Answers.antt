use Rattle.std.proofs.Common.{◌≡◌, ◌<◌, Some, None, Option, unwrap_or, refl, ap, ◌∙◌, subst, sym, rules}
use Rattle.std.specs.Option.{option_map_or}
use Rattle.std.proofs.lemmas.Option.{unwrap_or-slice_get}
use Rattle.model.specs.declared.Method.{Method}
use Rattle.model.specs.Program.{no_method}
use Rattle.recipe.specs.Recipes.{program}
use Rattle.recipe.proofs.Standing.{rights_below}
use Rattle.rules.proofs.asking.rights.Goals as goal

-- no method has no rights
no_rights_of_none : (o : Option Method) → option_map_or (λ m. m.rights) o 0 ≡ (unwrap_or o no_method).rights
no_rights_of_none (Some m) = refl
no_rights_of_none None = refl

pub returns-clause-answer : goal.returns-clause-answer
returns-clause-answer c =
    let mapped : c.map_or.result ≡ option_map_or (λ m. m.rights) c.method.result 0 = search rules in
    mapped
    ∙ no_rights_of_none c.method.result
    ∙ ap (λ o. (unwrap_or o no_method).rights) c.method.ensures
    ∙ ap (λ m. m.rights) (unwrap_or-slice_get (program c.args.recipe.now).methods c.args.method no_method)

pub returns-clause-below : goal.returns-clause-below
returns-clause-below c = subst (λ r. r < 65536) (sym (returns-clause-answer c)) (rights_below c.args.recipe.now c.args.method)
