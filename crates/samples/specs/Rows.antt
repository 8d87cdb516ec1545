-- Facts as rows of numbers.
use Rattle.std.specs.Prelude.{ℕ, List, get_or}
use Rattle.model.specs.declared.Fact.{Fact}
use Rattle.model.specs.Worked.{numbered}

-- the fact of a row: its numbers in the order of the fields
abbrev pub fact_of : List ℕ → Fact
fact_of row = numbered (get_or row 0 0) (get_or row 1 0) (get_or row 2 0) (get_or row 3 0) (get_or row 4 0) (get_or row 5 0) (get_or row 6 0) (get_or row 7 0) (get_or row 8 0) (get_or row 9 0)
