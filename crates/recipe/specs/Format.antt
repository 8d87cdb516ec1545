-- The format of a recipe file, by what is written: the bytes of a program with its edges. A legal file is one that is so written for a lawful program and edges.
use Rattle.std.specs.Prelude.{◌≡◌, ℕ, ◌+◌, ◌*◌, ◌/◌, ◌%◌, Bool, cond, List, [], ◌∷◌, ◌++◌, length}
use Rattle.std.specs.List.{flat_map}
use Rattle.model.specs.declared.Edge.{Edge}
use Rattle.model.specs.declared.Kind.{Kind}
use Rattle.model.specs.declared.Kind.TheVariants.{Nop, Call, Check, Return}
use Rattle.model.specs.declared.Method.{Method}
use Rattle.model.specs.declared.Node.{Node}
use Rattle.model.specs.Lawful.{Lawful}
use Rattle.model.specs.Program.{Program}

-- a number below 65,536 in two bytes, the greater one first
abbrev pub word : ℕ → List ℕ
word n = n / 256 ∷ n % 256 ∷ []

-- a method record: rights and node count
abbrev pub method_bytes : Method → List ℕ
method_bytes m = word m.rights ++ word m.nodes

abbrev pub kind_number : Kind → ℕ
kind_number Nop = 0
kind_number (Call callee grant accept privileged) = 1
kind_number (Check required) = 2
kind_number Return = 3

-- flag 1 is entry, flag 2 privileged
abbrev pub flags_of : Bool → Kind → ℕ
flags_of entry Nop = cond entry 1 0
flags_of entry (Call callee grant accept privileged) = cond entry 1 0 + cond privileged 2 0
flags_of entry (Check required) = cond entry 1 0
flags_of entry Return = cond entry 1 0

-- callee, grant (a check's required set) and accept; what a kind does not use is 0
abbrev pub operands : Kind → List ℕ
operands Nop = 0 ∷ (word 0 ++ word 0)
operands (Call callee grant accept privileged) = callee ∷ (word grant ++ word accept)
operands (Check required) = 0 ∷ (word required ++ word 0)
operands Return = 0 ∷ (word 0 ++ word 0)

-- a node record is eight bytes wide: one each for the kind, the mark and the flags, and five of operands
abbrev pub node_bytes : Node → List ℕ
node_bytes n = kind_number n.kind ∷ n.mark ∷ flags_of n.entry n.kind ∷ operands n.kind

-- an edge record: from and to
abbrev pub edge_bytes : Edge → List ℕ
edge_bytes e = word e.from ++ word e.to

-- a row is its cells, a byte each
abbrev pub row_bytes : List ℕ → List ℕ
row_bytes cells = cells

-- the table of contents: place and count of the methods, the nodes, the edges and the rows, each body at the end of the one before
abbrev pub contents_bytes : ℕ → ℕ → ℕ → ℕ → List ℕ
contents_bytes methods nodes edges rows =
    let nodes_at = 16 + 4 * methods in
    let edges_at = nodes_at + 8 * nodes in
    let rows_at = edges_at + 4 * edges in
    (word 16 ++ word methods) ++ ((word nodes_at ++ word nodes) ++ ((word edges_at ++ word edges) ++ (word rows_at ++ word rows)))

-- the file of a program with these edges
unfoldable pub bytes_of : Program → List Edge → List ℕ
bytes_of p es =
    contents_bytes (length p.methods) (length p.nodes) (length es) (length p.rows)
    ++ (flat_map method_bytes p.methods ++ (flat_map node_bytes p.nodes ++ (flat_map edge_bytes es ++ flat_map row_bytes p.rows)))

-- a legal file: one that is written for some lawful program and edges
abbrev pub Legal : List ℕ → Type 0
Legal bs = (p : Program) × (es : List Edge) × Lawful p es × (bs ≡ bytes_of p es)
