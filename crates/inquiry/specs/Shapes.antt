-- The rows of a fact table hang together: each names rows before it, and has the length that follows from theirs.
use Rattle.std.specs.Prelude.{◌≡◌, ℕ, zero, suc, ◌+◌, ◌-◌, ◌≤◌, cond, List, ◌++◌, length, ◌==◌, slice_set}
use Rattle.model.specs.declared.Fact.{Fact}
use Rattle.model.specs.Tables.{row_at, capped, Tale, no_tale, tale_at}

-- the length of the stretch of the row at a place, counted from 1; none at 0
abbrev pub span_at : List Fact → ℕ → ℕ
span_at rows zero = 0
span_at rows (suc i) = (row_at rows i).span

-- a row hangs together with the rows before it: its sources are among them, and its stretch is one node longer than theirs, or one node where rule 3 gave it
abbrev pub Hangs : List Fact → Fact → Type 0
Hangs rows f =
    (f.source ≤ length rows)
    × (f.returned ≤ length rows)
    × (f.span ≡ cond (f.rule == 3) 1 (capped (1 + span_at rows f.source + span_at rows f.returned)))

-- the tale of the row at a place, counted from 1; the empty one at 0. Its stretch, and the whole trace of the row, each with the last node first
abbrev pub tale_from : List Fact → ℕ → Tale
tale_from rows zero = no_tale
tale_from rows (suc i) = tale_at rows i

abbrev pub stretch_from : List Fact → ℕ → List ℕ
stretch_from rows k = (tale_from rows k).stretch

abbrev pub back_from : List Fact → ℕ → List ℕ
back_from rows k = (tale_from rows k).stretch ++ (tale_from rows k).below

-- a list with the number of a place where its stretch ends, before `end`; 0 is no place
abbrev pub with_end : List ℕ → ℕ → ℕ → List ℕ
with_end out end k = cond (k == 0) out (slice_set out (end - 1) k)
