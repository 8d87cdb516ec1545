use Rattle.std.proofs.Common.{◌≡◌}
use Rattle.model.specs.Tables.{offer_all}
use Rattle.inquiry.specs.Inquiries.{state_of, Grown}
use Rattle.inquiry.proofs.Inquiry.offer_each.Given as goal

-- the rows so far were offered
abbrev pub invariant-loop-row : goal.invariant-loop-row
invariant-loop-row g l =
    (state_of l.self ≡ offer_all l.initial.self.places (state_of l.initial.self) l.yielded)
    × Grown l.initial.self l.self
