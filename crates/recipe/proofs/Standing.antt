-- What a recipe's ghost facts say of its program: how many records it has, what each is, that it is lawful and that its file is what is written for it.
use Rattle.std.proofs.Common.{◌≡◌, ℕ, ◌<◌, ◌≤◌, List, ◌∷◌, map, length, get_or, Some, None, Option, subst, sym, ap, ◌∙◌, zero-add, arith}
use Rattle.std.specs.List.{slice_get, range_with_len as counting}
use Rattle.std.proofs.lemmas.List.FromFn.{length-map-range_with_len, get_or-map-range_with_len}
use Rattle.std.proofs.lemmas.List.{get_or_past}
use Rattle.std.proofs.lemmas.Option.{slice_get-get_or as nth_get_or, slice_get_past}
use Rattle.model.specs.declared.Edge.{Edge}
use Rattle.model.specs.Lawful.{Lawful}
use Rattle.model.proofs.Edges.{counted_rules}
use Rattle.model.specs.Program.{no_method, no_node, no_edge, no_row, method_at, EdgeRules, counted_after}
use Rattle.recipe.specs.declared.Recipe.{Recipe}
use Rattle.recipe.specs.Bytes.{method_in, node_in, edge_in, cell_in, program_of, edges_of}
use Rattle.recipe.specs.Format.{bytes_of}
use Rattle.recipe.specs.Recipes.{file_of, program, own_edges, ReadsAs, cell_of}
use Rattle.recipe.specs.Spans.{Summed}
use Rattle.recipe.proofs.Places.{laid}
use Rattle.model.proofs.Standing.{rights_small}
use Rattle.recipe.proofs.ReadBack.{read_program, read_edges}
use Rattle.recipe.proofs.Scans.{methods_length, nodes_length, edges_length, rows_length, method_at_lem, edge_at, row_at, summed}
use Rattle.recipe.proofs.WriteBack.{Checked, checked, node_some, lawful, written}

pub passes : (r : Recipe) → Checked (file_of r)
passes r = checked (file_of r) r.passes

pub sums : (r : Recipe) → Summed (file_of r)
sums r = summed (file_of r) (omega arith) (passes r).methods

pub stands : (r : Recipe) → Lawful (program r) (own_edges r)
stands r = lawful (file_of r) r.layout.bytes (laid r.layout) (passes r)

pub is_written : (r : Recipe) → file_of r ≡ bytes_of (program r) (own_edges r)
is_written r = written (file_of r) r.layout.bytes (laid r.layout) (passes r)

-- a recipe with these bytes is the one that they were written for
pub reads_as : (bs : List ℕ) (r : Recipe) → file_of r ≡ bs → ReadsAs bs r
reads_as bs r e p es law is = (ap program_of (e ∙ is) ∙ read_program p es law, ap edges_of (e ∙ is) ∙ read_edges p es law)

pub methods_count : (r : Recipe) → r.layout.contents.methods.count ≡ length (program r).methods
methods_count r = let h = methods_length (file_of r) in omega arith

pub nodes_count : (r : Recipe) → r.layout.contents.nodes.count ≡ length (program r).nodes
nodes_count r = let h = nodes_length (file_of r) in omega arith

pub edges_count : (r : Recipe) → r.layout.contents.edges.count ≡ length (own_edges r)
edges_count r = let h = edges_length (file_of r) in omega arith

pub rows_count : (r : Recipe) → r.layout.contents.rows.count ≡ length (program r).rows
rows_count r = let h = rows_length (file_of r) in omega arith

pub nth_method : (r : Recipe) (k : ℕ) → k < length (program r).methods → slice_get (program r).methods k ≡ Some (method_in (file_of r) k)
nth_method r k lt = nth_get_or (program r).methods k no_method lt ∙ ap Some (method_at_lem (file_of r) k (let h = methods_length (file_of r) in omega arith))

pub nth_node : (r : Recipe) (n : ℕ) → n < length (program r).nodes → slice_get (program r).nodes n ≡ node_in (file_of r) n
nth_node r n lt = nth_get_or (program r).nodes n no_node lt ∙ sym (node_some (file_of r) (passes r) n (let h = nodes_length (file_of r) in omega arith))

pub nth_edge : (r : Recipe) (i : ℕ) → i < length (own_edges r) → slice_get (own_edges r) i ≡ Some (edge_in (file_of r) i)
nth_edge r i lt = nth_get_or (own_edges r) i no_edge lt ∙ ap Some (edge_at (file_of r) i (let h = edges_length (file_of r) in omega arith))

-- a cell within the rows and the marks, and one past either
pub cell_within : (r : Recipe) (row mark : ℕ) → row < length (program r).rows → mark < 32 → cell_of (program r) row mark ≡ Some (cell_in (file_of r) row mark)
cell_within r row mark lt few =
    let bs = file_of r in
    let f = cell_in bs row in
    let h = rows_length bs in
    ap (λ cells. slice_get cells mark) (row_at bs row (omega arith))
    ∙ nth_get_or (map f (counting 0 32)) mark 0 (let g = length-map-range_with_len f 0 32 in omega arith)
    ∙ ap Some (get_or-map-range_with_len f 0 32 mark mark 0 few (zero-add mark))

pub cell_past_rows : (r : Recipe) (row mark : ℕ) → length (program r).rows ≤ row → cell_of (program r) row mark ≡ None
cell_past_rows r row mark far = ap (λ cells. slice_get cells mark) (get_or_past (program r).rows row no_row far)

pub cell_past_marks : (r : Recipe) (row mark : ℕ) → row < length (program r).rows → 32 ≤ mark → cell_of (program r) row mark ≡ None
cell_past_marks r row mark lt far =
    let bs = file_of r in
    let f = cell_in bs row in
    let h = rows_length bs in
    ap (λ cells. slice_get cells mark) (row_at bs row (omega arith)) ∙ slice_get_past (map f (counting 0 32)) mark (let g = length-map-range_with_len f 0 32 in omega arith)

-- the ends of an edge that counts are nodes, and so they take two bytes
pub counted_small : (r : Recipe) (last : Option Edge) (edges : List Edge) (e : Edge) (others : List Edge) → counted_after (program r) last edges ≡ e ∷ others → (e.from < 65536) × (e.to < 65536)
counted_small r last edges e others h =
    let some : 0 < length (counted_after (program r) last edges) = let n = ap length h in omega arith in
    let is : get_or (counted_after (program r) last edges) 0 no_edge ≡ e = ap (λ l. get_or l 0 no_edge) h in
    let rules = subst (EdgeRules (program r)) is (counted_rules (program r) last edges 0 some) in
    let few = (stands r).few_nodes in
    (omega arith, omega arith)

-- the rights of a method are a set of rights; past the last method there are none
pub rights_below : (r : Recipe) (k : ℕ) → (method_at (program r) k).rights < 65536
rights_below r k = rights_small (program r) (own_edges r) (stands r) k
