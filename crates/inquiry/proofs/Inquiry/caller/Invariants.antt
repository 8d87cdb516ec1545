use Rattle.inquiry.specs.Inquiries.{state_of}
use Rattle.inquiry.proofs.Stretches.{rows_hang, Before}
use Rattle.inquiry.proofs.Inquiry.caller.Given as goal

-- what stands below the row where the walk is stands below the one where it began
abbrev pub invariant-loop-row : goal.invariant-loop-row
invariant-loop-row l = Before (state_of l.self).rows (rows_hang l.self) l.place l.row

abbrev pub decreases-loop-row : goal.decreases-loop-row
decreases-loop-row l = l.row.source
