-- What is left of a recipe's edges while they are gone through.
use Rattle.std.specs.Prelude.{List, drop}
use Rattle.std.specs.Slice.Iter.{iter_rest}
use Rattle.model.specs.declared.Edge.{Edge}
use Rattle.model.specs.Program.{counted_after}
use Rattle.recipe.specs.declared.edges.Counted.{Counted}
use Rattle.recipe.specs.declared.edges.OwnEdges.{OwnEdges}
use Rattle.recipe.specs.Recipes.{program, own_edges}

-- of the edges of a file, those from a place on
abbrev pub left_in_file : OwnEdges → List Edge
left_in_file s = drop s.at (own_edges s.recipe.now)

-- of a list, the edges that count after the last one that did
abbrev pub left_in_list : Counted → List Edge
left_in_list s = counted_after (program s.recipe.now) s.last (iter_rest s.edges)
