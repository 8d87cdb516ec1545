use Rattle.std.proofs.Common.{eqb, ◌&&◌, rules, ap, ◌∙◌}
use borrow.Author.Tests.{tests}
use Rattle.std.proofs.lemmas.Iterator.Consumers.{YieldsList-from_first}
use Rattle.std.proofs.lemmas.Iterator.Search.{any_from_yields_List}
use Rattle.std.proofs.lemmas.List.{take_all}
use Rattle.model.specs.Links.{is_listed}
use Rattle.model.specs.Program.{counted}
use Rattle.model.specs.declared.Edge.{Edge}
use Rattle.recipe.specs.Recipes.{program}
use Rattle.recipe.specs.Sequences.{left_in_list}
use Rattle.inquiry.proofs.linking.is_listed.Goals as goal

-- no edge of the list lies past the places that are read
pub returns : goal.returns
returns c =
    let e = c.args.edge in
    any_from_yields_List (λ (d : Edge). eqb d.from e.from && eqb d.to e.to) c.any.new.self _ _ c.any.ensures.ran
    (YieldsList-from_first (λ x. x) left_in_list _ c.counted.ensures) (λ x b q k. search (rules, tests))
    ∙ ap (λ es. is_listed (counted (program c.args.recipe.now) es) e) (take_all 4096 c.args.edges.now c.requires)
