-- What is said of a refusal in words: the bytes that are printed of it.
use Rattle.std.specs.Prelude.{ℕ, cond, List, ◌++◌, codes, ◌==◌, nat_lt}
use Rattle.std.specs.Fmt.{decimal}
use Rattle.recipe.specs.declared.grounds.Refusal.{Refusal}
use Rattle.recipe.specs.declared.grounds.Refusal.TheVariants.{Misplaced, Miscounted, BadMethod, BadNode, BadEdge, BadRow, TooMany, OtherCounts, UnfitTable, NotAnEdge, EdgeHeld, EdgesFull, InquiryFull, NotUnsafe, LongTrace, NotAStep, StackFull, ShortOutput}

-- what an entry of the table of contents is of
abbrev pub body_name : ℕ → List ℕ
body_name entry = cond (entry == 0) (codes "methods") (cond (entry == 1) (codes "nodes") (cond (entry == 2) (codes "edges") (codes "rows")))

-- a sentence on one of several: which of them, by number, and what is wrong with it
abbrev pub of_one : List ℕ → ℕ → List ℕ → List ℕ
of_one what number wrong = what ++ (decimal number ++ (codes ": " ++ wrong))

-- the length counts as the entry after the last one
abbrev pub misplaced : ℕ → List ℕ
misplaced entry = cond (nat_lt entry 4)
    (codes "at the " ++ (body_name entry ++ codes " entry: the place of this body is not where what stands before it ends"))
    (codes "at the length: the file is shorter than its table of contents, or does not end where its last body does")

abbrev pub miscounted : ℕ → List ℕ
miscounted entry = codes "at the " ++ (body_name entry ++ codes " entry: this count is outside its limits (1 to 256 methods, 1 to 1,024 nodes, at most 4,096 edges, at most 16 rows)")

-- a trace whose length is the greatest that is told may be longer
abbrev pub long_trace : ℕ → List ℕ
long_trace n = cond (n == 4294967295) (codes "the trace has 4294967295 nodes or more") (codes "the output is too short: the trace has " ++ (decimal n ++ codes " nodes"))

abbrev pub sentence : Refusal → List ℕ
sentence (Misplaced entry) = misplaced entry
sentence (Miscounted entry) = miscounted entry
sentence (BadMethod method) = of_one (codes "method ") method (codes "this method has no nodes, or no entry, or the node counts of the methods do not sum to the number of nodes")
sentence (BadNode node) = of_one (codes "node ") node (codes "this node record breaks its rules (kind, mark, flags, an unused field, the callee, or a set outside its method's rights)")
sentence (BadEdge edge) = of_one (codes "edge ") edge (codes "this edge names a node that is not there, or leaves a return, or leads out of its method, or does not rise above the edge before it")
sentence (BadRow row) = of_one (codes "row ") row (codes "a cell of this row is neither a row's number nor 255")
sentence TooMany = codes "the rule has more than 65536 values, or the watch more than 65536 states"
sentence OtherCounts = codes "the nodes, values, states or edge places are not as many as at the opening"
sentence UnfitTable = codes "the edge table is too short for the recipe or longer than 4096 places, or the fact table is longer than 65536"
sentence NotAnEdge = codes "this pair is no edge: both have to be nodes of one method, and the first of them no return"
sentence EdgeHeld = codes "this edge is there already"
sentence EdgesFull = codes "the edge table has no place free"
sentence InquiryFull = codes "the inquiry is full"
sentence NotUnsafe = codes "the verdict is not unsafe"
sentence (LongTrace n) = long_trace n
sentence (NotAStep place) = of_one (codes "place ") place (codes "this node is no step of the run")
sentence (StackFull place) = of_one (codes "place ") place (codes "the stack has no room for this step")
sentence (ShortOutput needed) = codes "the output is too short: the file needs " ++ (decimal needed ++ codes " bytes")
