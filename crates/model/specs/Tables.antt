-- Fact tables: which rows a worked fact offers, in order, how they are put into the table, and the stretch of a row.
use Rattle.std.specs.Prelude.{ℕ, zero, suc, ◌+◌, ◌-◌, min, Bool, true, false, cond, not, ◌&&◌, ◌||◌, List, [], ◌∷◌, ◌++◌, map, length, get_or, ◌==◌, nat_le, nat_lt, slice_index_or}
use Rattle.model.specs.declared.Edge.{Edge}
use Rattle.model.specs.declared.Fact.{Fact}
use Rattle.model.specs.declared.Kind.{Kind}
use Rattle.model.specs.declared.Kind.TheVariants.{Nop, Call, Check, Return}
use Rattle.model.specs.declared.Verdict.{Verdict}
use Rattle.model.specs.declared.Verdict.TheVariants.{Safe, Unsafe, Full, Unfinished}
use Rattle.model.specs.Access.{call_enters}
use Rattle.model.specs.Program.{is_entry_of}
use Rattle.model.specs.declared.Point.{Point}
use Rattle.model.specs.Facts.{Setting, kind_at, first_point, follow_point, enter_point, back_point}
use Rattle.model.specs.Runs.{returns_at}
use Rattle.model.specs.Watches.{Watch}

-- where the call of a row's fact began, and where it can be
abbrev pub start_of : Fact → Point
start_of f = record { node = f.entry; value = f.brought; state = f.seen }

abbrev pub end_of : Fact → Point
end_of f = record { node = f.node; value = f.value; state = f.state }

-- what a place past the end stands for
abbrev pub no_fact : Fact
no_fact = record { entry = 0; brought = 0; seen = 0; node = 0; value = 0; state = 0; rule = 0; source = 0; returned = 0; span = 0 }

abbrev pub row_at : List Fact → ℕ → Fact
row_at rows i = slice_index_or rows i no_fact

-- a length is capped at the greatest number of 32 bits
abbrev pub capped : ℕ → ℕ
capped n = min n 4294967295

-- a row: its two points, the rule, its sources, and how long its stretch is
abbrev pub row : Point → Point → ℕ → ℕ → ℕ → ℕ → Fact
row s x rule source returned span = record { entry = s.node; brought = s.value; seen = s.state; node = x.node; value = x.value; state = x.state; rule = rule; source = source; returned = returned; span = span }

-- the rows that the four rules make: of an entry of main; from row c at place i along an edge to m; into entry m; and back from row x at place j
abbrev pub first_row : Setting → ℕ → Fact
first_row X n = row (first_point X n) (first_point X n) 1 0 0 1

abbrev pub follow_row : Setting → ℕ → Fact → ℕ → Fact
follow_row X i c m = row (start_of c) (follow_point X (end_of c) m) 2 (i + 1) 0 (capped (c.span + 1))

abbrev pub enter_row : Setting → ℕ → Fact → ℕ → Fact
enter_row X i c m = row (enter_point X (end_of c) m) (enter_point X (end_of c) m) 3 (i + 1) 0 1

abbrev pub back_row : Setting → ℕ → Fact → ℕ → Fact → ℕ → Fact
back_row X i c j x m = row (start_of c) (back_point X (end_of c) (end_of x) m) 4 (i + 1) (j + 1) (capped (c.span + x.span + 1))

abbrev pub same_point : Point → Point → Bool
same_point a b = a.node == b.node && (a.value == b.value && a.state == b.state)

-- two rows have one fact: the same six numbers
abbrev pub same_fact : Fact → Fact → Bool
same_fact f g = same_point (start_of f) (start_of g) && same_point (end_of f) (end_of g)

-- a row of the table has this fact
unfoldable pub is_held : List Fact → Fact → Bool
is_held [] f = false
is_held (r ∷ rows) f = same_fact r f || is_held rows f

-- a call at c gives the start s, by rule 3
abbrev pub gives : Setting → Point → Point → Bool
gives X c s = call_enters X.program (kind_at X c) s.node && same_point (enter_point X c s.node) s

-- rule 4 joins the call fact c and the return fact x
abbrev pub joins : Setting → Fact → Fact → Bool
joins X c x = returns_at X.program x.node && gives X (end_of c) (start_of x)

-- the nodes to which edges lead from n, in edge order
unfoldable pub targets : List Edge → ℕ → List ℕ
targets [] n = []
targets (e ∷ es) n = cond (e.from == n) (e.to ∷ targets es n) (targets es n)

-- what stands at each of k numbers from i on, one after another
unfoldable pub each_of : {A : Type 0} → ℕ → ℕ → (ℕ → List A) → List A
each_of zero i f = []
each_of (suc k) i f = f i ++ each_of k (suc i) f

-- the same for the numbers from i on below n
abbrev pub each_from : {A : Type 0} → ℕ → ℕ → (ℕ → List A) → List A
each_from i n f = each_of (n - i) i f

abbrev pub node_count : Setting → ℕ
node_count X = length X.program.nodes

-- rule 1: the entries of main, in node order
abbrev pub first_at : Setting → ℕ → List Fact
first_at X n = cond (is_entry_of X.program 0 n) (first_row X n ∷ []) []

abbrev pub firsts : Setting → List Fact
firsts X = each_from 0 (node_count X) (first_at X)

-- rule 2: the edges, in their order
abbrev pub follows : Setting → ℕ → Fact → List Fact
follows X i c = map (follow_row X i c) (targets X.edges c.node)

-- rule 3: the entries of the callee, in node order
abbrev pub enter_at : Setting → ℕ → ℕ → Fact → ℕ → List Fact
enter_at X callee i c m = cond (is_entry_of X.program callee m) (enter_row X i c m ∷ []) []

abbrev pub enters : Setting → ℕ → ℕ → Fact → List Fact
enters X callee i c = each_from 0 (node_count X) (enter_at X callee i c)

-- rule 4: the edges of the call, in their order
abbrev pub backs : Setting → ℕ → Fact → ℕ → Fact → List Fact
backs X i c j x = map (back_row X i c j x) (targets X.edges c.node)

-- the row at place j joined with call c at place i, if it is a return fact for it; with return x at place i, if it is a call fact for it
abbrev pub return_at : Setting → List Fact → ℕ → Fact → ℕ → List Fact
return_at X rows i c j = cond (joins X c (row_at rows j)) (backs X i c j (row_at rows j)) []

abbrev pub call_at : Setting → List Fact → ℕ → Fact → ℕ → List Fact
call_at X rows i x j = cond (joins X (row_at rows j) x) (backs X j (row_at rows j) i x) []

-- what row f at place i offers, by what its node does: along each edge; into each entry of the callee, and then back from each earlier return fact; or back to each earlier call fact
abbrev pub offers_by : Setting → List Fact → ℕ → Fact → Kind → List Fact
offers_by X rows i f Nop = follows X i f
offers_by X rows i f (Call callee grant accept privileged) = enters X callee i f ++ each_from 0 i (return_at X rows i f)
offers_by X rows i f (Check required) = cond (X.rule.pass f.value f.node) (follows X i f) []
offers_by X rows i f Return = each_from 0 i (call_at X rows i f)

unfoldable pub offers : Setting → List Fact → ℕ → List Fact
offers X rows i = offers_by X rows i (row_at rows i) (kind_at X (end_of (row_at rows i)))

-- the state of an inquiry: the rows held, how many of them are worked, and whether a new fact found no place
pub record Search : Type 0 where
  pub rows : List Fact
  pub worked : ℕ
  pub full : Bool

-- a row is offered to a table with so many places: passed over if its fact is held, put behind the last, or else the table is full, for good
abbrev pub put : ℕ → Search → Fact → Search
put places s f = cond (nat_lt (length s.rows) places) (record { rows = s.rows ++ f ∷ []; worked = s.worked; full = false }) (record { rows = s.rows; worked = s.worked; full = true })

unfoldable pub offer : ℕ → Search → Fact → Search
offer places s f = cond (s.full || is_held s.rows f) s (put places s f)

unfoldable pub offer_all : ℕ → Search → List Fact → Search
offer_all places s [] = s
offer_all places s (f ∷ fs) = offer_all places (offer places s f) fs

-- nothing held yet; and the opening, by rule 1
abbrev pub empty : Search
empty = record { rows = []; worked = 0; full = false }

unfoldable pub opened : Setting → ℕ → Search
opened X places = offer_all places empty (firsts X)

-- the first unworked fact is worked, and finished unless the table turned full
abbrev pub finish : Search → Search
finish s = cond s.full s (record { rows = s.rows; worked = s.worked + 1; full = s.full })

unfoldable pub work : Setting → ℕ → Search → Search
work X places s = finish (offer_all places s (offers X s.rows s.worked))

-- some fact is to be worked: the table is not full, and one is unworked
abbrev pub pending : Search → Bool
pending s = not s.full && nat_lt s.worked (length s.rows)

-- up to k facts are worked, in table order
unfoldable pub dug : Setting → ℕ → ℕ → Search → Search
dug X places zero s = s
dug X places (suc k) s = cond (pending s) (dug X places k (work X places s)) s

-- some held fact is bad
unfoldable pub any_bad : Watch → List Fact → Bool
any_bad W [] = false
any_bad W (r ∷ rows) = W.bad r.state || any_bad W rows

-- the place of the first held fact that is bad; the number of rows if none is
unfoldable pub first_bad : Watch → List Fact → ℕ
first_bad W [] = 0
first_bad W (r ∷ rows) = cond (W.bad r.state) 0 (suc (first_bad W rows))

-- what is said of a search: a bad fact decides, whatever is left to do; then that a fact was lost; then whether one is to be worked
abbrev pub verdict_of : Watch → Search → Verdict
verdict_of W s = cond (any_bad W s.rows) Unsafe (cond s.full Full (cond (nat_le (length s.rows) s.worked) Safe Unfinished))

-- what a row's derivation tells: its stretch and what stands below, each with the last node first
pub record Tale : Type 0 where
  pub stretch : List ℕ
  pub below : List ℕ

abbrev pub no_tale : Tale
no_tale = record { stretch = []; below = [] }

-- the tale of a row, from those of its sources: rule 3 begins anew, above what its source had; the other rules go on from it. Tales are by place from 1, and at 0 stands the empty one
abbrev pub tale_of : List Tale → Fact → Tale
tale_of tales f =
    let source = get_or tales f.source no_tale in
    cond (f.rule == 3)
    (record { stretch = f.node ∷ []; below = source.stretch ++ source.below })
    (record { stretch = f.node ∷ ((get_or tales f.returned no_tale).stretch ++ source.stretch); below = source.below })

unfoldable pub tales_after : List Tale → List Fact → List Tale
tales_after tales [] = tales
tales_after tales (f ∷ rows) = tales_after (tales ++ tale_of tales f ∷ []) rows

unfoldable pub tale_at : List Fact → ℕ → Tale
tale_at rows i = slice_index_or (tales_after (no_tale ∷ []) rows) (i + 1) no_tale
