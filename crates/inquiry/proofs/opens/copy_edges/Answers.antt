use Rattle.std.proofs.Common.{◌≡◌, ◌+◌, [], ◌∷◌, ◌++◌, take, drop, set, sym, ap, ◌∙◌, rules, arith}
use Rattle.recipe.specs.Recipes.{own_edges}
use Rattle.recipe.specs.Sequences.{left_in_file}
use Rattle.model.proofs.Nexts.{next_lt, next_rest}
use Rattle.inquiry.proofs.Begun.{copied_more, copied_all}
use Rattle.inquiry.proofs.opens.copy_edges.Goals as goal

pub loop-place-preserved : goal.loop-place-preserved
loop-place-preserved c =
    let own = own_edges c.args.recipe.now in
    let es = c.args.edges.now in
    let it = c.loop-place.place-iterator in
    let then = c.next.new.self in
    let e = c.in-Some.edge in
    let so = c.loop-place.invariant in
    let next : left_in_file it.iter ≡ e ∷ left_in_file then.iter = search rules in
    let here : c.in-Some.place ≡ it.count = search rules in
    let one : then.count ≡ it.count + 1 = search rules in
    let left = sym so.1 ∙ next in
    let lt = next_lt own it.count e _ left in
    let room = c.requires in (
      omega arith,
      next_rest own it.count e _ left ∙ sym (ap (λ k. drop k own) one),
      ap (λ k. set c.loop-place.edges k e) here ∙ copied_more own it.count e _ left es c.loop-place.edges (omega arith) so.2 ∙ sym (ap (λ k. take k own ++ drop k es) one),
    )

pub returns : goal.returns
returns c =
    let it = c.loop-place.place-iterator in
    let so = c.loop-place.invariant in
    let none : left_in_file it.iter ≡ [] = search rules in
    copied_all (own_edges c.args.recipe.now) c.args.edges.now c.loop-place.edges it.count so.2 so.0 (sym so.1 ∙ none)
