-- The program of a recipe as mathematics: methods, nodes and rows by number, which pairs of nodes may be edges, and which edges of a list count.
use Rattle.std.specs.Prelude.{◌≡◌, ℕ, zero, suc, ◌+◌, ◌-◌, ◌<◌, Bool, true, false, cond, not, ◌&&◌, ◌||◌, ◌⊎◌, List, [], ◌∷◌, length, Some, None, Option, ◌==◌, bit_and, nat_lt, slice_index_or, Contains}
use Rattle.model.specs.declared.Edge.{Edge}
use Rattle.model.specs.declared.Kind.{Kind}
use Rattle.model.specs.declared.Kind.TheVariants.{Return}
use Rattle.model.specs.declared.Method.{Method}
use Rattle.model.specs.declared.Node.{Node}

-- methods, nodes and rows, each by number from 0; method 0 is main. Edges are a list apart, since links add to them
pub record Program : Type 0 where
  pub methods : List Method
  pub nodes : List Node
  pub rows : List (List ℕ)

-- what a number past the end stands for
abbrev pub no_method : Method
no_method = record { rights = 0; nodes = 0 }

abbrev pub no_node : Node
no_node = record { kind = Return; mark = 0; entry = false }

abbrev pub no_edge : Edge
no_edge = record { from = 0; to = 0 }

abbrev pub no_row : List ℕ
no_row = []

abbrev pub method_at : Program → ℕ → Method
method_at p k = slice_index_or p.methods k no_method

abbrev pub node_at : Program → ℕ → Node
node_at p n = slice_index_or p.nodes n no_node

-- the first node of method k: nodes are numbered in method order
unfoldable pub offset : List Method → ℕ → ℕ
offset ms zero = 0
offset [] (suc k) = 0
offset (m ∷ ms) (suc k) = m.nodes + offset ms k

-- the method of node n
unfoldable pub home : List Method → ℕ → ℕ
home [] n = 0
home (m ∷ ms) n = cond (nat_lt n m.nodes) 0 (suc (home ms (n - m.nodes)))

-- the rights of the method of node n
abbrev pub rights_of : Program → ℕ → ℕ
rights_of p n = (method_at p (home p.methods n)).rights

-- each right of s is one of t
abbrev pub Within : ℕ → ℕ → Type 0
Within s t = bit_and s t ≡ s

abbrev pub is_return : Kind → Bool
is_return Return = true
is_return _ = false

-- n is an entry of method m; a return of it
abbrev pub is_entry_of : Program → ℕ → ℕ → Bool
is_entry_of p m n = nat_lt n (length p.nodes) && ((node_at p n).entry && home p.methods n == m)

abbrev pub is_return_of : Program → ℕ → ℕ → Bool
is_return_of p m n = nat_lt n (length p.nodes) && (is_return (node_at p n).kind && home p.methods n == m)

-- the rules for an edge: its two nodes are of one method, and the first does not end it
pub record EdgeRules (p : Program) (e : Edge) : Type 0 where
  pub leaves : e.from < length p.nodes
  pub arrives : e.to < length p.nodes
  pub goes_on : is_return (node_at p e.from).kind ≡ false
  pub stays : home p.methods e.from ≡ home p.methods e.to

-- the rules for an edge, as a test
abbrev pub is_edge : Program → Edge → Bool
is_edge p e = nat_lt e.from (length p.nodes) && (nat_lt e.to (length p.nodes) && (not (is_return (node_at p e.from).kind) && home p.methods e.from == home p.methods e.to))

-- an edge of the list leads from a to b
abbrev pub Leads : List Edge → ℕ → ℕ → Type 0
Leads es a b = Contains es (record { from = a; to = b })

-- e rises above d: by from, and then by to
abbrev pub Rises : Edge → Edge → Type 0
Rises d e = (d.from < e.from) ⊎ ((d.from ≡ e.from) × (d.to < e.to))

-- the same, as a test
abbrev pub rises : Edge → Edge → Bool
rises d e = nat_lt d.from e.from || (d.from == e.from && nat_lt d.to e.to)

-- e rises above the last edge that counted, if there is one
abbrev pub rises_after : Option Edge → Edge → Bool
rises_after None e = true
rises_after (Some d) e = rises d e

-- e counts after the last one that did: it is an edge by the rules, and rises above that one
abbrev pub counts : Program → Option Edge → Edge → Bool
counts p last e = is_edge p e && rises_after last e

-- the edges of a list that count, in their order: one that does not count is passed over, and does not become the last
unfoldable pub counted_after : Program → Option Edge → List Edge → List Edge
counted_after p last [] = []
counted_after p last (e ∷ es) = cond (counts p last e) (e ∷ counted_after p (Some e) es) (counted_after p last es)

abbrev pub counted : Program → List Edge → List Edge
counted p es = counted_after p None es
