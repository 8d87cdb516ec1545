-- What the bytes of a file say: numbers, the table of contents, and each record by its number. It says nothing of files that are not legal but what their bytes come to.
use Rattle.std.specs.Prelude.{ℕ, ◌+◌, ◌*◌, ◌%◌, cond, ◌&&◌, List, map, Some, None, Option, ◌==◌, nat_le, nat_lt, slice_index}
use Rattle.std.specs.List.{range_with_len}
use Rattle.std.specs.Option.{unwrap_or}
use Rattle.model.specs.declared.Edge.{Edge}
use Rattle.model.specs.declared.Kind.{Kind}
use Rattle.model.specs.declared.Kind.TheVariants.{Nop, Call, Check, Return}
use Rattle.model.specs.declared.Method.{Method}
use Rattle.model.specs.declared.Node.{Node}
use Rattle.model.specs.Program.{Program, no_node}
use Rattle.recipe.specs.declared.contents.Body.{Body}
use Rattle.recipe.specs.declared.contents.Contents.{Contents}

abbrev pub byte_at : List ℕ → ℕ → ℕ
byte_at bs i = slice_index bs i

-- two bytes, the greater one first
abbrev pub word_at : List ℕ → ℕ → ℕ
word_at bs i = byte_at bs i * 256 + byte_at bs (i + 1)

-- the table of contents: entry k, from 0, has the place and the count of a body
abbrev pub place_in : List ℕ → ℕ → ℕ
place_in bs k = word_at bs (4 * k)

abbrev pub count_in : List ℕ → ℕ → ℕ
count_in bs k = word_at bs (4 * k + 2)

abbrev pub body_in : List ℕ → ℕ → Body
body_in bs k = record { place = place_in bs k; count = count_in bs k }

-- the whole table of contents
abbrev pub contents_in : List ℕ → Contents
contents_in bs = record { methods = body_in bs 0; nodes = body_in bs 1; edges = body_in bs 2; rows = body_in bs 3 }

-- where the bodies lie, each at the end of the one before: methods, nodes, edges, rows, and the end of the file
abbrev pub nodes_at : List ℕ → ℕ
nodes_at bs = 16 + 4 * count_in bs 0

abbrev pub edges_at : List ℕ → ℕ
edges_at bs = nodes_at bs + 8 * count_in bs 1

abbrev pub rows_at : List ℕ → ℕ
rows_at bs = edges_at bs + 4 * count_in bs 2

abbrev pub end_at : List ℕ → ℕ
end_at bs = rows_at bs + 32 * count_in bs 3

abbrev pub method_in : List ℕ → ℕ → Method
method_in bs k = record { rights = word_at bs (16 + 4 * k); nodes = word_at bs (16 + 4 * k + 2) }

abbrev pub edge_in : List ℕ → ℕ → Edge
edge_in bs i = record { from = word_at bs (edges_at bs + 4 * i); to = word_at bs (edges_at bs + 4 * i + 2) }

abbrev pub cell_in : List ℕ → ℕ → ℕ → ℕ
cell_in bs r c = byte_at bs (rows_at bs + 32 * r + c)

-- what a node record's kind, flags, callee, grant and accept say, if it leaves at 0 what its kind does not use. Flag 1 is entry, flag 2 privileged
abbrev pub kind_of : ℕ → ℕ → ℕ → ℕ → ℕ → Option Kind
kind_of kind flags callee grant accept =
    cond (kind == 0) (cond (nat_lt flags 2 && (callee == 0 && (grant == 0 && accept == 0))) (Some Nop) None)
    (cond (kind == 1) (cond (nat_lt flags 4) (Some (Call callee grant accept (nat_le 2 flags))) None)
    (cond (kind == 2) (cond (nat_lt flags 2 && (callee == 0 && accept == 0)) (Some (Check grant)) None)
    (cond (kind == 3) (cond (nat_lt flags 2 && (callee == 0 && (grant == 0 && accept == 0))) (Some Return) None) None)))

abbrev pub with_mark : Option Kind → ℕ → ℕ → Option Node
with_mark None mark flags = None
with_mark (Some k) mark flags = cond (nat_lt mark 32) (Some (record { kind = k; mark = mark; entry = (flags % 2 == 1) })) None

-- the node that eight bytes stand for, if they do: one byte each for what it is, its mark, its flags and the method it calls, then the words grant (which a check requires) and accept
abbrev pub record_of : ℕ → ℕ → ℕ → ℕ → ℕ → ℕ → ℕ → ℕ → Option Node
record_of kind mark flags callee g1 g0 a1 a0 = with_mark (kind_of kind flags callee (g1 * 256 + g0) (a1 * 256 + a0)) mark flags

abbrev pub record_at : List ℕ → ℕ → Option Node
record_at bs i = record_of (byte_at bs i) (byte_at bs (i + 1)) (byte_at bs (i + 2)) (byte_at bs (i + 3)) (byte_at bs (i + 4)) (byte_at bs (i + 5)) (byte_at bs (i + 6)) (byte_at bs (i + 7))

abbrev pub node_in : List ℕ → ℕ → Option Node
node_in bs n = record_at bs (nodes_at bs + 8 * n)

-- the list of f 0, f 1, .. , f (n - 1)
abbrev pub listed : {X : Type 0} → (ℕ → X) → ℕ → List X
listed f n = map f (range_with_len 0 n)

abbrev pub row_in : List ℕ → ℕ → List ℕ
row_in bs r = listed (cell_in bs r) 32

-- the program and the edges that the bytes say
unfoldable pub program_of : List ℕ → Program
program_of bs = record {
  methods = listed (method_in bs) (count_in bs 0);
  nodes = listed (λ n. unwrap_or (node_in bs n) no_node) (count_in bs 1);
  rows = listed (row_in bs) (count_in bs 3);
}

unfoldable pub edges_of : List ℕ → List Edge
edges_of bs = listed (edge_in bs) (count_in bs 2)
