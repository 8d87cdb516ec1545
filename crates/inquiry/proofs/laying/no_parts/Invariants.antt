use Rattle.std.proofs.Common.{◌≡◌, ℕ, ◌<◌}
use Rattle.inquiry.specs.Sides.{no_part, part_at}
use Rattle.inquiry.proofs.laying.no_parts.Given as goal

-- the parts that were gone through are empty
abbrev pub invariant-loop-part : goal.invariant-loop-part
invariant-loop-part l = (k : ℕ) → k < l.part-index → part_at l.part-items k ≡ no_part
