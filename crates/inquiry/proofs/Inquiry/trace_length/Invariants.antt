use Rattle.std.proofs.Common.{◌≡◌, ◌+◌, ◌≤◌, length}
use Rattle.model.specs.Tables.{capped}
use Rattle.inquiry.specs.Inquiries.{state_of}
use Rattle.inquiry.specs.Shapes.{back_from}
use Rattle.inquiry.proofs.Inquiry.trace_length.Given as goal

-- what is left of the trace makes up the whole with what was counted
abbrev pub invariant-loop-at : goal.invariant-loop-at
invariant-loop-at l =
    (l.at ≤ l.self.held)
    × (l.length ≤ 4294967295)
    × (capped (l.length + length (back_from (state_of l.self).rows l.at)) ≡ capped (length (back_from (state_of l.self).rows l.place)))

abbrev pub decreases-loop-at : goal.decreases-loop-at
decreases-loop-at l = l.at
