use Rattle.inquiry.specs.Inquiries.{state_of}
use Rattle.inquiry.proofs.Chaining.{Chaining}
use Rattle.inquiry.proofs.Inquiry.write_trace.Given as goal

-- the trace is being written, from its last stretch on
abbrev pub invariant-loop-at : goal.invariant-loop-at
invariant-loop-at l = Chaining (state_of l.self).rows l.fn.out l.out l.place l.nodes l.at l.end

abbrev pub decreases-loop-at : goal.decreases-loop-at
decreases-loop-at l = l.at
