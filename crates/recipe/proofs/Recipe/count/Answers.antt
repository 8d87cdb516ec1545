use Rattle.std.proofs.Common.{inl, ap, length, rules}
use Rattle.recipe.specs.Recipes.{program}
use Rattle.recipe.proofs.Sequences.{listed_few}
use Rattle.recipe.proofs.Recipe.count.Goals as goal

pub count-requires-clause-fits : goal.count-requires-clause-fits
count-requires-clause-fits c =
    let few = listed_few (program c.args.self.now) c.args.edges.now in
    let n = ap length c.counted.ensures in
    inl (search rules)

pub returns-clause-bound : goal.returns-clause-bound
returns-clause-bound c =
    let few = listed_few (program c.args.self.now) c.args.edges.now in
    let n = ap length c.counted.ensures in
    search rules
