-- The single rules of each record, in the order in which they are asked, each with what it is called if it is broken; and what is said of a refused file by the first that is.
use Rattle.std.specs.Prelude.{ℕ, suc, ◌+◌, ◌*◌, ◌-◌, Bool, false, cond, not, ◌||◌, List, [], ◌∷◌, ◌++◌, length, Some, None, Option, ◌==◌, bit_and, nat_le, nat_lt}
use Rattle.std.specs.List.{Contains}
use Rattle.model.specs.Program.{node_at, home, offset, rights_of, is_return, rises_after}
use Rattle.recipe.specs.Bytes.{byte_at, place_in, count_in, body_in, nodes_at, edges_at, rows_at, method_in, edge_in, cell_in, program_of}
use Rattle.recipe.specs.Offence.{first_offence, each, between, ends, entry_test, edge_before, cell_test, take_tests, check_tests}
use Rattle.recipe.specs.declared.grounds.Refusal.{Refusal}
use Rattle.recipe.specs.declared.grounds.Refusal.TheVariants.{Misplaced, Miscounted, BadMethod, BadNode, BadEdge, BadRow, TooMany, OtherCounts, UnfitTable, NotAnEdge, EdgeHeld, EdgesFull, InquiryFull, NotUnsafe, LongTrace, NotAStep, StackFull, ShortOutput}
use Rattle.explaining.specs.declared.explanation.Explanation.{Explanation}
use Rattle.explaining.specs.declared.explanation.Fields.{Fields}
use Rattle.explaining.specs.declared.explanation.Record.{Record}
use Rattle.explaining.specs.declared.explanation.Record.TheVariants.{File, Entry, Method, Node, Edge as EdgeRecord, Row}
use Rattle.explaining.specs.declared.explanation.Rule.{Rule}
use Rattle.explaining.specs.declared.explanation.Rule.TheVariants.{ShortFile, WrongLength, WrongPlace, WrongCount, NoNodes, SumPast, SumShort, NoEntry, UnknownKind, WrongMark, UnknownFlag, NotPrivileged, UnusedCallee, UnusedGrant, UnusedAccept, NoCallee, GrantOutside, AcceptOutside, NoFrom, NoTo, LeavesReturn, LeavesMethod, NotRising, WrongCell}

-- the fields of node record n
abbrev pub fields_in : List ℕ → ℕ → Fields
fields_in bs n =
    let at = nodes_at bs + 8 * n in
    record {
      kind = byte_at bs at;
      mark = byte_at bs (at + 1);
      flags = byte_at bs (at + 2);
      callee = byte_at bs (at + 3);
      grant = byte_at bs (at + 4) * 256 + byte_at bs (at + 5);
      accept = byte_at bs (at + 6) * 256 + byte_at bs (at + 7);
    }

-- the file holds a table of contents, and ends where its last body does
unfoldable pub length_rules : List ℕ → List (Bool × Rule)
length_rules bs =
    let wanted = ends 32 (body_in bs 3) in
    (nat_le 16 (length bs), ShortFile) ∷ ((length bs == wanted), WrongLength wanted) ∷ []

-- a body begins where what stands before it ends
abbrev pub place_wanted : List ℕ → ℕ → ℕ
place_wanted bs entry = cond (entry == 0) 16 (cond (entry == 1) (ends 4 (body_in bs 0)) (cond (entry == 2) (ends 8 (body_in bs 1)) (ends 4 (body_in bs 2))))

unfoldable pub place_rules : List ℕ → ℕ → List (Bool × Rule)
place_rules bs entry = ((place_in bs entry == place_wanted bs entry), WrongPlace (place_wanted bs entry)) ∷ []

-- the limits of each count
abbrev pub fewest : ℕ → ℕ
fewest entry = cond (nat_lt entry 2) 1 0

abbrev pub most : ℕ → ℕ
most entry = cond (entry == 0) 256 (cond (entry == 1) 1024 (cond (entry == 2) 4096 16))

unfoldable pub count_rules : List ℕ → ℕ → List (Bool × Rule)
count_rules bs entry = (between (fewest entry) (most entry) (count_in bs entry), WrongCount (fewest entry) (most entry)) ∷ []

-- a method has nodes, no more than are left, all methods together have them all, and one of its nodes is an entry
unfoldable pub method_rules : List ℕ → ℕ → List (Bool × Rule)
method_rules bs k =
    let sum = offset (program_of bs).methods (suc k) in
    let nodes = count_in bs 1 in
    (nat_le 1 (method_in bs k).nodes, NoNodes)
    ∷ (nat_le sum nodes, SumPast sum nodes)
    ∷ ((nat_lt (suc k) (count_in bs 0) || sum == nodes), SumShort sum nodes)
    ∷ (entry_test bs k, NoEntry)
    ∷ []

-- a node record has a kind, a mark and flags that there are, and leaves at 0 what its kind does not use: only a call (1) uses all, and a check (2) its required set
unfoldable pub form_rules : Fields → List (Bool × Rule)
form_rules f =
    (nat_lt f.kind 4, UnknownKind)
    ∷ (nat_lt f.mark 32, WrongMark)
    ∷ (nat_lt f.flags 4, UnknownFlag)
    ∷ ((f.kind == 1 || nat_lt f.flags 2), NotPrivileged)
    ∷ ((f.kind == 1 || f.callee == 0), UnusedCallee)
    ∷ ((f.kind == 1 || (f.kind == 2 || f.grant == 0)), UnusedGrant)
    ∷ ((f.kind == 1 || f.accept == 0), UnusedAccept)
    ∷ []

-- a call calls a method that there is, and grants and accepts only rights of its own method
unfoldable pub call_rules : ℕ → ℕ → Fields → List (Bool × Rule)
call_rules methods rights f =
    ((not (f.kind == 1) || nat_lt f.callee methods), NoCallee methods)
    ∷ ((not (f.kind == 1) || bit_and f.grant rights == f.grant), GrantOutside rights)
    ∷ ((not (f.kind == 1) || bit_and f.accept rights == f.accept), AcceptOutside rights)
    ∷ []

unfoldable pub node_rules : List ℕ → ℕ → List (Bool × Rule)
node_rules bs n = form_rules (fields_in bs n) ++ call_rules (count_in bs 0) (rights_of (program_of bs) n) (fields_in bs n)

-- an edge joins two nodes, leaves no return, stays within a method, and rises above the edge before it
unfoldable pub edge_rules : List ℕ → ℕ → List (Bool × Rule)
edge_rules bs i =
    let p = program_of bs in
    let nodes = count_in bs 1 in
    let e = edge_in bs i in
    let before = edge_in bs (i - 1) in
    (nat_lt e.from nodes, NoFrom nodes)
    ∷ (nat_lt e.to nodes, NoTo nodes)
    ∷ (not (is_return (node_at p e.from).kind), LeavesReturn)
    ∷ ((home p.methods e.from == home p.methods e.to), LeavesMethod (home p.methods e.from) (home p.methods e.to))
    ∷ (rises_after (edge_before bs i) e, NotRising before.from before.to)
    ∷ []

-- each cell of a row, mark by mark
unfoldable pub row_rules : List ℕ → ℕ → List (Bool × Rule)
row_rules bs r = each 32 (cell_test bs r) (λ c. WrongCell c (cell_in bs r c))

-- what is said by the first rule that is broken; nothing where none is
abbrev pub said : Record → ℕ → Option Rule → Option Explanation
said what at None = None
said what at (Some rule) = Some (record { what = what; at = at; broken = rule })

-- of the records of a file, so many there are, the one by this number
abbrev pub within : ℕ → ℕ → Option Explanation → Option Explanation
within number many explanation = cond (nat_lt number many) explanation None

abbrev pub method_record : List ℕ → ℕ → Record
method_record bs k = Method k (method_in bs k).rights (method_in bs k).nodes

abbrev pub edge_record : List ℕ → ℕ → Record
edge_record bs i = EdgeRecord i (edge_in bs i).from (edge_in bs i).to

abbrev pub entry_record : List ℕ → ℕ → Record
entry_record bs entry = Entry entry (place_in bs entry) (count_in bs entry)

-- what is said of a file and a refusal; nothing where the refusal is of no record of the file, or the record breaks no rule
unfoldable pub explained : List ℕ → Refusal → Option Explanation
explained bs (Misplaced entry) =
    cond (entry == 4) (said (File (length bs)) (length bs) (first_offence (length_rules bs)))
    (within entry 4 (said (entry_record bs entry) (4 * entry) (first_offence (place_rules bs entry))))
explained bs (Miscounted entry) = within entry 4 (said (entry_record bs entry) (4 * entry) (first_offence (count_rules bs entry)))
explained bs (BadMethod k) = within k (count_in bs 0) (said (method_record bs k) (16 + 4 * k) (first_offence (method_rules bs k)))
explained bs (BadNode n) = within n (count_in bs 1) (said (Node n (fields_in bs n)) (nodes_at bs + 8 * n) (first_offence (node_rules bs n)))
explained bs (BadEdge i) = within i (count_in bs 2) (said (edge_record bs i) (edges_at bs + 4 * i) (first_offence (edge_rules bs i)))
explained bs (BadRow r) = within r (count_in bs 3) (said (Row r) (rows_at bs + 32 * r) (first_offence (row_rules bs r)))
explained bs TooMany = None
explained bs OtherCounts = None
explained bs UnfitTable = None
explained bs NotAnEdge = None
explained bs EdgeHeld = None
explained bs EdgesFull = None
explained bs InquiryFull = None
explained bs NotUnsafe = None
explained bs (LongTrace n) = None
explained bs (NotAStep place) = None
explained bs (StackFull place) = None
explained bs (ShortOutput needed) = None

-- one of the tests that take and check make of a file fails, and this is its refusal
unfoldable pub Fails : List ℕ → Refusal → Type 0
Fails bs r = Contains (take_tests bs ++ check_tests bs) (false, r)
