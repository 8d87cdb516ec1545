use Rattle.std.proofs.Common.{◌≤◌, length, sym, arith}
use Rattle.std.proofs.lemmas.Bool.Decides.{nat_tests}
use Rattle.recipe.specs.Recipes.{program}
use Rattle.rules.proofs.Lawfulness.{no_rights}
use Rattle.rules.proofs.asking.own_rights.Goals as goal

pub returns-in-None : goal.returns-in-None
returns-in-None c =
    let h = c.in-None.ensures in
    let far : length (program c.args.recipe.now).nodes ≤ c.args.n = grind (arith, nat_tests) in
    record { answer = sym (no_rights c.args.recipe.now c.args.n far); below = omega arith }
