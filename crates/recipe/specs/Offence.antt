-- What is wrong with a file, and what is said of it: the tests of take and of check in the order in which they are made, each with the refusal that its failure gets.
use Rattle.std.specs.Prelude.{ℕ, zero, suc, ◌+◌, ◌*◌, Bool, true, false, cond, ◌&&◌, ◌||◌, List, [], ◌∷◌, ◌++◌, length, Some, None, Option, ◌==◌, bit_and, nat_le, nat_lt}
use Rattle.model.specs.declared.Edge.{Edge}
use Rattle.model.specs.declared.Kind.{Kind}
use Rattle.model.specs.declared.Kind.TheVariants.{Nop, Call, Check, Return}
use Rattle.model.specs.declared.Node.{Node}
use Rattle.model.specs.Program.{node_at, offset, rights_of, counts}
use Rattle.recipe.specs.Bytes.{count_in, contents_in, method_in, node_in, edge_in, cell_in, listed, program_of}
use Rattle.recipe.specs.declared.contents.Body.{Body}
use Rattle.recipe.specs.declared.contents.Contents.{Contents}
use Rattle.recipe.specs.declared.grounds.Refusal.{Refusal}
use Rattle.recipe.specs.declared.grounds.Refusal.TheVariants.{Misplaced, Miscounted, BadMethod, BadNode, BadEdge, BadRow, TooMany, OtherCounts, UnfitTable, NotAnEdge, EdgeHeld, EdgesFull, InquiryFull, NotUnsafe, LongTrace, NotAStep, StackFull, ShortOutput}

-- the number of a refusal
abbrev pub number_of : Refusal → ℕ
number_of (Misplaced entry) = 1
number_of (Miscounted entry) = 2
number_of (BadMethod method) = 3
number_of (BadNode node) = 4
number_of (BadEdge edge) = 5
number_of (BadRow row) = 6
number_of TooMany = 7
number_of OtherCounts = 8
number_of UnfitTable = 9
number_of NotAnEdge = 10
number_of EdgeHeld = 11
number_of EdgesFull = 12
number_of InquiryFull = 13
number_of NotUnsafe = 14
number_of (LongTrace n) = 15
number_of (NotAStep place) = 16
number_of (StackFull place) = 17
number_of (ShortOutput needed) = 18

-- what a refusal says beside its number: which one of them is wrong, how many nodes a trace has, how many bytes are needed, or 0
abbrev pub detail_of : Refusal → ℕ
detail_of (Misplaced entry) = entry
detail_of (Miscounted entry) = entry
detail_of (BadMethod method) = method
detail_of (BadNode node) = node
detail_of (BadEdge edge) = edge
detail_of (BadRow row) = row
detail_of TooMany = 0
detail_of OtherCounts = 0
detail_of UnfitTable = 0
detail_of NotAnEdge = 0
detail_of EdgeHeld = 0
detail_of EdgesFull = 0
detail_of InquiryFull = 0
detail_of NotUnsafe = 0
detail_of (LongTrace n) = n
detail_of (NotAStep place) = place
detail_of (StackFull place) = place
detail_of (ShortOutput needed) = needed

-- of tests, each with what its failure is called, what the first one that fails is called
unfoldable pub first_offence : {R : Type 0} → List (Bool × R) → Option R
first_offence [] = None
first_offence (t ∷ ts) = cond t.0 (first_offence ts) (Some t.1)

-- one test for each number below n
abbrev pub each : {R : Type 0} → ℕ → (ℕ → Bool) → (ℕ → R) → List (Bool × R)
each n passes refusal = listed (λ k. (passes k, refusal k)) n

-- the test passes at each number below n; at some number below n
unfoldable pub all_below : ℕ → (ℕ → Bool) → Bool
all_below zero test = true
all_below (suc n) test = test n && all_below n test

unfoldable pub any_below : ℕ → (ℕ → Bool) → Bool
any_below zero test = false
any_below (suc n) test = test n || any_below n test

abbrev pub between : ℕ → ℕ → ℕ → Bool
between low high n = nat_le low n && nat_le n high

-- the four counts lie within their limits
abbrev pub count_tests : Contents → List (Bool × Refusal)
count_tests c =
    (between 1 256 c.methods.count, Miscounted 0)
    ∷ (between 1 1024 c.nodes.count, Miscounted 1)
    ∷ (nat_le c.edges.count 4096, Miscounted 2)
    ∷ (nat_le c.rows.count 16, Miscounted 3)
    ∷ []

-- where a body of records so wide ends
abbrev pub ends : ℕ → Body → ℕ
ends wide b = b.place + wide * b.count

-- the four bodies follow the table of contents without gaps, and then the file ends
abbrev pub place_tests : Contents → ℕ → List (Bool × Refusal)
place_tests c len =
    ((c.methods.place == 16), Misplaced 0)
    ∷ ((c.nodes.place == ends 4 c.methods), Misplaced 1)
    ∷ ((c.edges.place == ends 8 c.nodes), Misplaced 2)
    ∷ ((c.rows.place == ends 4 c.edges), Misplaced 3)
    ∷ ((len == ends 32 c.rows), Misplaced 4)
    ∷ []

-- take: the length of the table of contents, the counts, the places, the length of the file
abbrev pub take_tests : List ℕ → List (Bool × Refusal)
take_tests bs = (nat_le 16 (length bs), Misplaced 4) ∷ (count_tests (contents_in bs) ++ place_tests (contents_in bs) (length bs))

-- a method has nodes, the sum up to it does not pass the node count, and at the last method the sum reaches it
unfoldable pub method_test : List ℕ → ℕ → Bool
method_test bs k =
    let sum = offset (program_of bs).methods (suc k) in
    nat_le 1 (method_in bs k).nodes && (nat_le sum (count_in bs 1) && (nat_lt (suc k) (count_in bs 0) || sum == count_in bs 1))

-- a call's callee is a method, and what it grants and accepts lies within its own method's rights
abbrev pub kind_fits : ℕ → ℕ → Kind → Bool
kind_fits methods rights Nop = true
kind_fits methods rights (Call callee grant accept privileged) = nat_lt callee methods && (bit_and grant rights == grant && bit_and accept rights == accept)
kind_fits methods rights (Check required) = true
kind_fits methods rights Return = true

abbrev pub record_fits : ℕ → ℕ → Option Node → Bool
record_fits methods rights None = false
record_fits methods rights (Some n) = kind_fits methods rights n.kind

unfoldable pub node_test : List ℕ → ℕ → Bool
node_test bs n = record_fits (count_in bs 0) (rights_of (program_of bs) n) (node_in bs n)

-- a method has an entry among its nodes
unfoldable pub entry_test : List ℕ → ℕ → Bool
entry_test bs k = any_below (method_in bs k).nodes (λ j. (node_at (program_of bs) (offset (program_of bs).methods k + j)).entry)

-- the edge before edge i, if there is one
abbrev pub edge_before : List ℕ → ℕ → Option Edge
edge_before bs zero = None
edge_before bs (suc i) = Some (edge_in bs i)

-- an edge is one by the rules, and rises above the edge before it: it counts after that one
unfoldable pub edge_test : List ℕ → ℕ → Bool
edge_test bs i = counts (program_of bs) (edge_before bs i) (edge_in bs i)

-- each cell of a row is a row's number, or 255
abbrev pub cell_test : List ℕ → ℕ → ℕ → Bool
cell_test bs r c = nat_lt (cell_in bs r c) (count_in bs 3) || cell_in bs r c == 255

unfoldable pub row_test : List ℕ → ℕ → Bool
row_test bs r = all_below 32 (cell_test bs r)

-- check goes through the records in the order of the file, but asks for the entry of a method only once all nodes are right
abbrev pub check_tests : List ℕ → List (Bool × Refusal)
check_tests bs =
    each (count_in bs 0) (method_test bs) BadMethod
    ++ (each (count_in bs 1) (node_test bs) BadNode
    ++ (each (count_in bs 0) (entry_test bs) BadMethod
    ++ (each (count_in bs 2) (edge_test bs) BadEdge
    ++ each (count_in bs 3) (row_test bs) BadRow)))
