-- The rules of a recipe, in its own words: which programs and edges a recipe may have.
use Rattle.std.specs.Prelude.{◌≡◌, ℕ, suc, ◌<◌, ◌≤◌, true, ◌⊎◌, List, length, slice_index, slice_index_or, Contains}
use Rattle.model.specs.declared.Edge.{Edge}
use Rattle.model.specs.declared.Kind.{Kind}
use Rattle.model.specs.declared.Kind.TheVariants.{Call, Check}
use Rattle.model.specs.declared.Node.{Node}
use Rattle.model.specs.Program.{Program, method_at, node_at, no_edge, no_row, offset, rights_of, Within, EdgeRules, Rises}

-- what a node of a kind may hold, in a recipe of so many methods, in a method with these rights
abbrev pub KindRules : ℕ → ℕ → Kind → Type 0
KindRules methods rights (Call callee grant accept privileged) = (callee < methods) × Within grant rights × Within accept rights
KindRules methods rights (Check required) = required < 65536
KindRules methods rights _ = Unit {0}

-- a node's mark is one of 32, and it may hold what its kind says
abbrev pub NodeRules : ℕ → ℕ → Node → Type 0
NodeRules methods rights n = (n.mark < 32) × KindRules methods rights n.kind

-- a method has nodes, rights 0 to 15, and an entry among its nodes
pub record MethodRules (p : Program) (k : ℕ) : Type 0 where
  pub rights : (method_at p k).rights < 65536
  pub some : 1 ≤ (method_at p k).nodes
  pub entry : (n : ℕ) × (offset p.methods k ≤ n) × (n < offset p.methods (suc k)) × ((node_at p n).entry ≡ true)

-- a cell of a row leads to a row, or is 255: undefined
abbrev pub CellRules : Program → ℕ → Type 0
CellRules p c = (c < length p.rows) ⊎ (c ≡ 255)

-- a row has a cell for each of the 32 marks
pub record RowRules (p : Program) (row : List ℕ) : Type 0 where
  pub wide : length row ≡ 32
  pub cells : (c : ℕ) → c < 32 → CellRules p (slice_index row c)

-- the limits, and the rules for each method, node, edge and row; the edges rise strictly
pub record Lawful (p : Program) (es : List Edge) : Type 0 where
  pub some_method : 1 ≤ length p.methods
  pub few_methods : length p.methods ≤ 256
  pub some_node : 1 ≤ length p.nodes
  pub few_nodes : length p.nodes ≤ 1024
  pub few_edges : length es ≤ 4096
  pub few_rows : length p.rows ≤ 16
  pub method : (k : ℕ) → k < length p.methods → MethodRules p k
  pub summing : offset p.methods (length p.methods) ≡ length p.nodes
  pub node : (n : ℕ) → n < length p.nodes → NodeRules (length p.methods) (rights_of p n) (node_at p n)
  pub edge : (i : ℕ) → i < length es → EdgeRules p (slice_index_or es i no_edge)
  pub rising : (i : ℕ) → suc i < length es → Rises (slice_index_or es i no_edge) (slice_index_or es (suc i) no_edge)
  pub row : (i : ℕ) → i < length p.rows → RowRules p (slice_index_or p.rows i no_row)

-- each edge of a list is one by the rules, in whatever order they are: a recipe's edges with links added are such a list
abbrev pub EdgesObey : Program → List Edge → Type 0
EdgesObey p es = (e : Edge) → Contains es e → EdgeRules p e
