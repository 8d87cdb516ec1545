use Rattle.std.proofs.Common.{◌≡◌, ◌≤◌, ◌++◌, length, take, drop}
use Rattle.recipe.specs.Recipes.{own_edges}
use Rattle.recipe.specs.Sequences.{left_in_file}
use Rattle.inquiry.proofs.opens.copy_edges.Given as goal

-- so many edges are copied, the others are left, and the places after the copied ones are as they were
abbrev pub invariant-loop-place : goal.invariant-loop-place
invariant-loop-place l =
    let own = own_edges l.recipe in
    let n = l.place-iterator.count in
    (n ≤ length own) × (left_in_file l.place-iterator.iter ≡ drop n own) × (l.edges ≡ take n own ++ drop n l.initial.edges)
