use Rattle.inquiry.specs.Inquiries.{state_of}
use Rattle.inquiry.proofs.Filling.{Filling}
use Rattle.inquiry.proofs.Stretches.{rows_hang}
use Rattle.inquiry.proofs.Inquiry.write_stretch.Given as goal

-- the stretch is being written, from its end
abbrev pub invariant-loop-at : goal.invariant-loop-at
invariant-loop-at l = Filling (state_of l.self).rows (rows_hang l.self) l.fn.out l.out l.place l.from l.at l.end
