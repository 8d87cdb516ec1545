use Rattle.std.proofs.Common.{◌≡◌, ◌≤◌, length, drop}
use Rattle.model.specs.Program.{counted}
use Rattle.recipe.specs.Recipes.{program}
use Rattle.recipe.specs.Sequences.{left_in_list}
use Rattle.inquiry.proofs.Sides.{Laying}
use Rattle.inquiry.proofs.laying.lay.Given as goal

-- so many of the edges that count are laid, and the others are left
abbrev pub invariant-loop-place : goal.invariant-loop-place
invariant-loop-place l =
    let all = counted (program l.fn.recipe) l.fn.edges in
    let n = l.place-iterator.count in
    record {
      within : n ≤ length all;
      left : left_in_list l.place-iterator.iter ≡ drop n all;
      laid : Laying all n l.parts l.targets;
      parts : length l.parts ≡ 1024;
      targets : length l.targets ≡ 4096;
    }
