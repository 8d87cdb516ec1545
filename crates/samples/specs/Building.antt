-- The bytes that the builder makes, of any parts: each number is cut to the bytes that a file has for it.
use Rattle.std.specs.Prelude.{ℕ, ◌+◌, ◌*◌, ◌%◌, Bool, List, [], ◌∷◌, ◌++◌, length, take, replicate, min, slice_set}
use Rattle.std.specs.List.{flat_map, fold}
use Rattle.model.specs.declared.Edge.{Edge}
use Rattle.model.specs.declared.Kind.{Kind}
use Rattle.model.specs.declared.Kind.TheVariants.{Nop, Call, Check, Return}
use Rattle.model.specs.declared.Method.{Method}
use Rattle.model.specs.declared.Node.{Node}
use Rattle.model.specs.Program.{Program}
use Rattle.recipe.specs.Format.{word, method_bytes, node_bytes, edge_bytes, row_bytes}
use Rattle.samples.specs.declared.building.Parts.{Parts}

-- the program that parts are; their edges are a list apart
abbrev pub program_in : Parts → Program
program_in p = record { methods = p.methods.now; nodes = p.nodes.now; rows = p.rows.now }

-- a number cut to two bytes
abbrev pub cut : ℕ → ℕ
cut n = n % 65536

-- a method with its numbers cut
abbrev pub cut_method : Method → Method
cut_method m = record { rights = cut m.rights; nodes = cut m.nodes }

-- what a node does with its numbers cut: a callee has one byte, a set of rights two
abbrev pub cut_kind : Kind → Kind
cut_kind Nop = Nop
cut_kind (Call callee grant accept privileged) = Call (callee % 256) (cut grant) (cut accept) privileged
cut_kind (Check required) = Check (cut required)
cut_kind Return = Return

-- a node with its numbers cut: a mark has one byte
abbrev pub cut_node : Node → Node
cut_node n = record { kind = cut_kind n.kind; mark = n.mark % 256; entry = n.entry }

-- an edge with its numbers cut
abbrev pub cut_edge : Edge → Edge
cut_edge e = record { from = cut e.from; to = cut e.to }

-- the node of a line: what it does, its mark, and whether it is an entry
abbrev pub node_of : Kind × ℕ × Bool → Node
node_of (kind, mark, entry) = record { kind = kind; mark = mark; entry = entry }

-- numbers one after another, each in two bytes
abbrev pub words : List ℕ → List ℕ
words ns = flat_map (λ n. word (cut n)) ns

-- how many records a table of contents says that there are
abbrev pub told : ℕ → ℕ
told n = min n 65535

-- the table of contents as numbers: the place and the count of each body, for so many methods, nodes, edges and rows
abbrev pub contents_of : ℕ → ℕ → ℕ → ℕ → List ℕ
contents_of methods nodes edges rows =
    let nodes_at = 16 + 4 * methods in
    let edges_at = nodes_at + 8 * nodes in
    let rows_at = edges_at + 4 * edges in
    16 ∷ methods ∷ nodes_at ∷ nodes ∷ edges_at ∷ edges ∷ rows_at ∷ rows ∷ []

-- the file of parts: the table of contents, and the bodies without gaps
unfoldable pub built : Parts → List ℕ
built p =
    words (contents_of (told (length p.methods.now)) (told (length p.nodes.now)) (told (length p.edges.now)) (told (length p.rows.now)))
    ++ (flat_map (λ m. method_bytes (cut_method m)) p.methods.now
    ++ (flat_map (λ n. node_bytes (cut_node n)) p.nodes.now
    ++ (flat_map (λ e. edge_bytes (cut_edge e)) p.edges.now
    ++ flat_map row_bytes p.rows.now)))

-- these words and then zeros, as far as a length goes
unfoldable pub blank_bytes : List ℕ → ℕ → List ℕ
blank_bytes contents len = take len (words contents ++ replicate len 0)

-- a file with bytes set, one change after another: a place and the byte for it
unfoldable pub with_changes : List ℕ → List (ℕ × ℕ) → List ℕ
with_changes file changes = fold (λ bs c. slice_set bs c.0 c.1) file changes
