-- The nodes of a method, as a scan over rising nodes keeps them.
use Rattle.std.specs.Prelude.{◌≡◌, ℕ, ◌+◌, ◌<◌, List}
use Rattle.model.specs.Program.{offset}
use Rattle.recipe.specs.Bytes.{count_in, program_of}

-- the node counts of the methods sum up to the node count
abbrev pub Summed : List ℕ → Type 0
Summed bs = offset (program_of bs).methods (count_in bs 0) ≡ count_in bs 1

-- a method of the file has its first node at start, and end past its last one
abbrev pub SpanOf : List ℕ → ℕ → ℕ → ℕ → Type 0
SpanOf bs method start end =
    (method < count_in bs 0)
    × (start ≡ offset (program_of bs).methods method)
    × (end ≡ offset (program_of bs).methods (method + 1))
