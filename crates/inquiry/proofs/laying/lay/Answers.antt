use Rattle.std.proofs.Common.{◌≡◌, ◌+◌, ◌-◌, ◌<◌, ◌≤◌, [], ◌∷◌, length, take, drop, None, sym, ap, ◌∙◌, inl, inr, rules, arith}
use Rattle.std.proofs.lemmas.List.{take_all, length-drop}
use Rattle.model.specs.declared.Edge.{Edge}
use Rattle.model.proofs.Edges.{counted_length}
use Rattle.model.proofs.Nexts.{next_lt, next_is, next_rest}
use Rattle.model.specs.Program.{no_edge, counted}
use Rattle.recipe.specs.Recipes.{program}
use Rattle.recipe.specs.Sequences.{left_in_list}
use Rattle.inquiry.proofs.Sides.{counted_ascend, none_laid, all_laid, parts_fit, laid_next, leaves_node}
use Rattle.inquiry.proofs.laying.lay.Goals as goal
use Rattle.inquiry.proofs.laying.lay.Goals.{then-part-eq0, else-part-eq0}

pub loop-place-init : goal.loop-place-init
loop-place-init c =
    let p = program c.args.recipe.now in
    let es = c.args.edges.now in
    let all = counted p es in
    let it = c.into_iter-place-iterator.result in
    let none : it.count ≡ 0 = search rules in
    let left : left_in_list it.iter ≡ counted p (take 4096 es) = search rules in
    record {
      within = omega arith;
      left = left ∙ ap (counted p) (take_all 4096 es c.requires) ∙ sym (ap (λ k. drop k all) none);
      laid = none_laid all it.count c.no_parts-parts.result _ none c.no_parts-parts.ensures;
      parts = search rules;
      targets = search rules;
    }

-- no more edges count than there are
pub loop-place-init-derived : goal.loop-place-init-derived
loop-place-init-derived c =
    let p = program c.args.recipe.now in
    let es = c.args.edges.now in
    let it = c.into_iter-place-iterator.result in
    let none : it.count ≡ 0 = search rules in
    let left : left_in_list it.iter ≡ counted p (take 4096 es) = search rules in
    let few = counted_length p None (take 4096 es) in
    let short = ap length (take_all 4096 es c.requires) in
    let many : length (left_in_list it.iter) ≤ 4096 = omega (arith, ap length left, c.requires) in
    search rules

-- the next edge is among those that count
pub bounds-parts-from : goal.bounds-parts-from
bounds-parts-from c =
    let es = c.args.edges.now in
    let all = counted (program c.args.recipe.now) es in
    let it = c.loop-place.place-iterator in
    let e = c.in-Some.edge in
    let next : left_in_list it.iter ≡ e ∷ left_in_list c.next.new.self.iter = search rules in
    let left = sym c.loop-place.invariant.left ∙ next in
    let node = leaves_node c.args.recipe.now es it.count (next_lt all it.count e _ left) in
    let is = next_is all it.count e _ left no_edge in
    let from = ap (λ (d : Edge). d.from) is in
    omega arith

pub bounds-parts-from-in-loop-place : goal.bounds-parts-from-in-loop-place
bounds-parts-from-in-loop-place c =
    let es = c.args.edges.now in
    let all = counted (program c.args.recipe.now) es in
    let it = c.loop-place.place-iterator in
    let e = c.in-Some.edge in
    let next : left_in_list it.iter ≡ e ∷ left_in_list c.next.new.self.iter = search rules in
    let left = sym c.loop-place.invariant.left ∙ next in
    let node = leaves_node c.args.recipe.now es it.count (next_lt all it.count e _ left) in
    let is = next_is all it.count e _ left no_edge in
    let from = ap (λ (d : Edge). d.from) is in
    omega arith

pub bounds-targets-place : goal.bounds-targets-place
bounds-targets-place c =
    let es = c.args.edges.now in
    let p = program c.args.recipe.now in
    let it = c.loop-place.place-iterator in
    let e = c.in-Some.edge in
    let next : left_in_list it.iter ≡ e ∷ left_in_list c.next.new.self.iter = search rules in
    let here : c.in-Some.place ≡ it.count = search rules in
    let lt = next_lt (counted p es) it.count e _ (sym c.loop-place.invariant.left ∙ next) in
    let few = counted_length p None es in
    omega (arith, c.requires)

pub offset_bounds-targets-place : goal.offset_bounds-targets-place
offset_bounds-targets-place c =
    let low : c.in-Some.place < 4096 = bounds-targets-place c in
    omega arith

pub loop-place-preserved : goal.loop-place-preserved
loop-place-preserved c =
    let p = program c.args.recipe.now in
    let es = c.args.edges.now in
    let all = counted p es in
    let it = c.loop-place.place-iterator in
    let then = c.next.new.self in
    let e = c.in-Some.edge in
    let so = c.loop-place.invariant in
    let next : left_in_list it.iter ≡ e ∷ left_in_list then.iter = search rules in
    let here : c.in-Some.place ≡ it.count = search rules in
    let one : then.count ≡ it.count + 1 = search rules in
    let left = sym so.left ∙ next in
    let lt = next_lt all it.count e _ left in
    let few = counted_length p None es in
    let node = leaves_node c.args.recipe.now es it.count lt in
    let is = next_is all it.count e _ left no_edge in
    let from = ap (λ (d : Edge). d.from) is in
    record {
      within = omega arith;
      left = next_rest all it.count e _ left ∙ sym (ap (λ k. drop k all) one);
      laid = laid_next all (counted_ascend p es) it.count lt c.loop-place.targets (let long = so.targets in omega (arith, c.requires)) e (next_is all it.count e _ left no_edge)
          c.loop-place.parts (let long = so.parts in omega arith) so.laid c.in-Some.place then.count c.if-part-eq0.first here one
          (elim c.if-part-eq0.branch [ then-part-eq0 w ↦ inl (w.if-part-eq0.true, w.first-is) | else-part-eq0 w ↦ inr (omega (arith, w.if-part-eq0.false), w.first-is) ]);
      parts = search rules;
      targets = search rules;
    }

-- all are laid
pub returns : goal.returns
returns c =
    let all = counted (program c.args.recipe.now) c.args.edges.now in
    let it = c.loop-place.place-iterator in
    let so = c.loop-place.invariant in
    let none : left_in_list it.iter ≡ [] = search rules in
    let end : length all - it.count ≡ 0 = sym (length-drop it.count all) ∙ ap length (sym so.left ∙ none) in
    all_laid all it.count c.loop-place.parts c.loop-place.targets so.laid (omega arith)

pub invariant_of-result : goal.invariant_of-result
invariant_of-result c =
    let es = c.args.edges.now in
    let all = counted (program c.args.recipe.now) es in
    let it = c.loop-place.place-iterator in
    let so = c.loop-place.invariant in
    let few = counted_length (program c.args.recipe.now) None es in
    let within = so.within in
    record { fits = parts_fit all it.count 4096 c.loop-place.parts c.loop-place.targets so.laid (omega (arith, c.requires)) }
