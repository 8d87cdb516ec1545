use Rattle.std.proofs.Common.{◌&&◌, eqb, rules}
use borrow.Author.Tests.{tests}
use Rattle.std.proofs.lemmas.Iterator.Consumers.{YieldsList-from_first}
use Rattle.std.proofs.lemmas.Iterator.Search.{any_from_yields_List}
use Rattle.model.specs.declared.Edge.{Edge}
use Rattle.recipe.specs.Sequences.{left_in_list}
use Rattle.walker.proofs.leading.has_edge.Goals as goal

pub returns : goal.returns
returns c =
    any_from_yields_List (λ (e : Edge). eqb e.from c.args.from && eqb e.to c.args.to) c.any.new.self _ _ c.any.ensures.ran
    (YieldsList-from_first (λ x. x) left_in_list _ c.counted.ensures) (λ x b q k. search (rules, tests))
