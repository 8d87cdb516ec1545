-- The targets of edges, laid side by side by the node that the edges leave.
use Rattle.std.specs.Prelude.{◌≡◌, ℕ, ◌≤◌, List, slice_index_or, slice_range}
use Rattle.model.specs.declared.Edge.{Edge}
use Rattle.model.specs.Tables.{targets}
use Rattle.inquiry.specs.declared.laying.Part.{Part}

-- what a node without edges has, and a number past the last node
abbrev pub no_part : Part
no_part = record { first = 0; end = 0 }

abbrev pub part_at : List Part → ℕ → Part
part_at parts n = slice_index_or parts n no_part

-- the numbers that stand in a part
abbrev pub within : List ℕ → Part → List ℕ
within laid part = slice_range laid part.first part.end

-- a part of so many places
abbrev pub Fits : ℕ → Part → Type 0
Fits places part = (part.first ≤ part.end) × (part.end ≤ places)

-- each node's part of what is laid has its targets, in edge order
abbrev pub LaidBy : List Edge → List Part → List ℕ → Type 0
LaidBy es parts laid = (n : ℕ) → within laid (part_at parts n) ≡ targets es n
