-- Recipe A as the samples have it: its file, and which method each node is of.
use Rattle.std.specs.Prelude.{ℕ, List, length, map}
use Rattle.std.specs.List.{range_with_len}
use Rattle.model.specs.Program.{home}
use Rattle.model.specs.RecipeA.{program_a, edges_a}
use Rattle.recipe.specs.Format.{bytes_of}

-- its bytes; a proof sees them only where it unfolds this word
unfoldable pub file_a : List ℕ
file_a = bytes_of program_a edges_a

-- the method of each of its nodes
unfoldable pub owners_a : List ℕ
owners_a = map (home program_a.methods) (range_with_len 0 (length program_a.nodes))
