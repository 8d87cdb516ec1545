use Rattle.std.proofs.Common.{◌≡◌, ℕ, ◌+◌, true, false, eqb, refl, ap, ◌∙◌, arith, rules}
use Rattle.std.proofs.lemmas.Iterator.{YieldsList-from_range, cases_from_any}
use borrow.Author.Tests.{tests}
use Rattle.model.specs.Program.{node_at}
use Rattle.recipe.specs.Offence.{any_below}
use Rattle.recipe.specs.Recipes.{program}
use Rattle.recipe.proofs.Layers.{any_over}
use Rattle.inspect.proofs.watching.uses.Goals as goal

pub returns : goal.returns
returns c =
    let p = program c.args.recipe.now in
    let many = c.nodes.result in
    let f = λ (n : ℕ). eqb (node_at p n).mark c.args.mark in
    let first_is : (j : ℕ) → 0 + j ≡ j = λ j. omega arith in
    any_over 0 many f c.any.result (cases_from_any _ _ _ (λ n. f n ≡ true) (λ n. f n ≡ false) c.any.ensures.ran (YieldsList-from_range 0 many many refl (omega arith)) (λ x q k. search (rules, tests)) (λ x q k. search (rules, tests)))
    ∙ (λ i. any_below many (λ j. f (first_is j i))) ∙ ap (λ n. any_below n f) c.nodes.ensures
