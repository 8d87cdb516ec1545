use Rattle.std.proofs.Common.{arith}
use Rattle.std.proofs.lemmas.List.{length-take-le}
use Rattle.std.proofs.lemmas.Bool.{eq-eqb, ne_eqb}
use Rattle.inquiry.specs.Inquiries.{state_of}
use Rattle.inquiry.proofs.Looking.{rows_fit}
use Rattle.inquiry.proofs.Stretches.{rows_hang, before_start, before_source, before_smaller, before_call, before_none, before_less}
use Rattle.inquiry.proofs.Inquiry.caller.Goals as goal

pub loop-row-init : goal.loop-row-init
loop-row-init c =
    let t = c.args.self.now in
    let n = length-take-le t.held t.facts.now (rows_fit t) in
    before_start (state_of t).rows (rows_hang t) c.args.place c.row-row.result c.requires.0 (omega (arith, c.requires.1)) c.row-row.ensures

pub row-row-requires-in-loop-row : goal.row-row-requires-in-loop-row
row-row-requires-in-loop-row c =
    let t = c.args.self.now in
    let less = before_less (state_of t).rows (rows_hang t) c.loop-row.invariant in
    (omega (arith, c.if-row-ne0.true), omega (arith, c.requires.1))

pub loop-row-smaller : goal.loop-row-smaller
loop-row-smaller c = let t = c.args.self.now in before_smaller (state_of t).rows (rows_hang t) c.loop-row.invariant (omega (arith, c.if-row-ne0.true)) c.row-row-in-loop-row.ensures

pub loop-row-preserved : goal.loop-row-preserved
loop-row-preserved c =
    let t = c.args.self.now in
    before_source (state_of t).rows (rows_hang t) c.loop-row.invariant (ne_eqb _ _ c.loop-row-test.true) (omega (arith, c.if-row-ne0.true)) c.row-row-in-loop-row.ensures

pub returns-else-row-ne0-clause-less : goal.returns-else-row-ne0-clause-less
returns-else-row-ne0-clause-less c = let t = c.args.self.now in before_less (state_of t).rows (rows_hang t) c.loop-row.invariant

pub returns-else-row-ne0-clause-below : goal.returns-else-row-ne0-clause-below
returns-else-row-ne0-clause-below c = let t = c.args.self.now in before_none (state_of t).rows (rows_hang t) c.loop-row.invariant (ne_eqb _ _ c.loop-row-test.true) c.if-row-ne0.false

pub returns-after-loop-row-clause-less : goal.returns-after-loop-row-clause-less
returns-after-loop-row-clause-less c = let t = c.args.self.now in before_less (state_of t).rows (rows_hang t) c.loop-row.invariant

pub returns-after-loop-row-clause-below : goal.returns-after-loop-row-clause-below
returns-after-loop-row-clause-below c = let t = c.args.self.now in before_call (state_of t).rows (rows_hang t) c.loop-row.invariant (eq-eqb _ _ c.loop-row-test.false)
