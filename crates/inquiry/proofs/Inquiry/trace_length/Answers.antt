use Rattle.std.proofs.Common.{length, ap, arith}
use Rattle.std.proofs.lemmas.List.{length-take-le}
use Rattle.inquiry.specs.Inquiries.{state_of}
use Rattle.inquiry.specs.Shapes.{back_from}
use Rattle.inquiry.proofs.Looking.{rows_fit}
use Rattle.inquiry.proofs.Stretches.{rows_hang, counted_more}
use Rattle.inquiry.proofs.Inquiry.trace_length.Goals as goal

pub loop-at-preserved : goal.loop-at-preserved
loop-at-preserved c =
    let t = c.args.self.now in
    let n = length-take-le t.held t.facts.now (rows_fit t) in
    let within = c.loop-at.invariant.0 in
    let less = c.caller-at.ensures.less in
    let sum = c.saturating_add-length.ensures in
    let span = c.span_at.ensures in
    let more = counted_more (state_of t).rows (rows_hang t) c.loop-at.length c.loop-at.at c.caller-at.result (omega arith) c.caller-at.ensures.below in
    (omega arith, omega arith, omega (arith, c.loop-at.invariant.2))

pub returns : goal.returns
returns c = let small = c.loop-at.invariant.1 in let none = ap (λ k. length (back_from (state_of c.args.self.now).rows k)) c.loop-at-test.false in omega (arith, c.loop-at.invariant.2)
