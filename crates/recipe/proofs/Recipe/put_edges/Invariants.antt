use Rattle.std.proofs.Common.{◌+◌, ◌*◌}
use Rattle.recipe.specs.Recipes.{program}
use Rattle.recipe.specs.Sequences.{left_in_list}
use Rattle.recipe.specs.Writing.{listed_edges}
use Rattle.recipe.proofs.Puts.{Sofar}
use Rattle.recipe.proofs.Recipe.put_edges.Given as goal

abbrev pub invariant-loop-i : goal.invariant-loop-i
invariant-loop-i l = Sofar (listed_edges (program l.fn.self) l.edges) l.at l.initial.out (l.at + 4 * l.i-iterator.count) l.out (left_in_list l.i-iterator.iter)
