use Rattle.std.proofs.Common.{◌≡◌, ℕ, ◌<◌, ◌≤◌, ◌⊎◌, inl, inr, arith}
use Rattle.std.proofs.lemmas.Bool.{cases_lt}
use Rattle.std.proofs.lemmas.List.{get_or_past}
use Rattle.inquiry.specs.Sides.{no_part, part_at}
use Rattle.inquiry.proofs.laying.no_parts.Goals as goal

-- all were gone through, and past the last there is none
pub returns : goal.returns
returns c = λ n. by n (cases_lt n 1024)
  where
    by : (n : ℕ) → (n < 1024) ⊎ (1024 ≤ n) → part_at c.loop-part.part-items n ≡ no_part
    by n (inl low) = c.loop-part.invariant n (omega arith)
    by n (inr far) = get_or_past c.loop-part.part-items n no_part (omega (arith, c.loop-part-test.array_long))
