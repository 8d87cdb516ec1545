use Rattle.std.proofs.Common.{◌≡◌, ◌++◌, take}
use Rattle.std.specs.List.{flat_map}
use Rattle.recipe.specs.Format.{method_bytes, node_bytes, edge_bytes, row_bytes}
use Rattle.samples.specs.Building.{cut_method, cut_node, cut_edge, words}
use Rattle.samples.proofs.building.Parts.file.Given as goal

-- behind what was there when the loop began stand the records so far
abbrev pub invariant-loop-n : goal.invariant-loop-n
invariant-loop-n l = l.file.items ≡ l.initial.file.items ++ words (take l.n-index l.n-items)

abbrev pub invariant-loop-m : goal.invariant-loop-m
invariant-loop-m l = l.file.items ≡ l.initial.file.items ++ flat_map (λ m. method_bytes (cut_method m)) (take l.m-index l.m-items)

abbrev pub invariant-loop-n-2 : goal.invariant-loop-n-2
invariant-loop-n-2 l = l.file.items ≡ l.initial.file.items ++ flat_map (λ n. node_bytes (cut_node n)) (take l.n-index l.n-items)

abbrev pub invariant-loop-e : goal.invariant-loop-e
invariant-loop-e l = l.file.items ≡ l.initial.file.items ++ flat_map (λ e. edge_bytes (cut_edge e)) (take l.e-index l.e-items)

abbrev pub invariant-loop-cells : goal.invariant-loop-cells
invariant-loop-cells l = l.file.items ≡ l.initial.file.items ++ flat_map row_bytes (take l.cells-index l.cells-items)
