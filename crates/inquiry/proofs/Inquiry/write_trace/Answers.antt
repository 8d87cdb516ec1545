use Rattle.std.proofs.Common.{arith}
use Rattle.std.proofs.lemmas.List.{length-take-le}
use Rattle.inquiry.specs.Inquiries.{state_of}
use Rattle.inquiry.proofs.Chaining.{chain_start, chain_room, chain_more, chain_end}
use Rattle.inquiry.proofs.Looking.{rows_fit}
use Rattle.inquiry.proofs.Stretches.{rows_hang, spans}
use Rattle.inquiry.proofs.Inquiry.write_trace.Goals as goal

pub loop-at-init : goal.loop-at-init
loop-at-init c = chain_start (state_of c.args.self.now).rows c.args.out.now c.args.place c.args.nodes c.requires.long c.requires.fits.0

pub write_stretch-requires-clause-held : goal.write_stretch-requires-clause-held
write_stretch-requires-clause-held c = let up = c.loop-at.invariant.up in (omega (arith, c.loop-at-test.true), omega (arith, c.requires.held))

pub write_stretch-requires-clause-fits : goal.write_stretch-requires-clause-fits
write_stretch-requires-clause-fits c =
    let room = chain_room (state_of c.args.self.now).rows c.loop-at.invariant in
    (room.0, omega (arith, room.1, c.loop-at.auto.out))

pub write_stretch-requires-clause-small : goal.write_stretch-requires-clause-small
write_stretch-requires-clause-small c =
    let room = chain_room (state_of c.args.self.now).rows c.loop-at.invariant in
    let within = c.loop-at.invariant.within in
    omega (arith, room.0, c.requires.fits.1)

pub span_at-requires : goal.span_at-requires
span_at-requires c = let up = c.loop-at.invariant.up in omega (arith, c.requires.held)

pub overflow_sub-end : goal.overflow_sub-end
overflow_sub-end c =
    let t = c.args.self.now in
    let n = length-take-le t.held t.facts.now (rows_fit t) in
    let up = c.loop-at.invariant.up in
    let long = spans (state_of t).rows (rows_hang t) c.loop-at.at (omega (arith, c.requires.held)) in
    let room = chain_room (state_of t).rows c.loop-at.invariant in
    omega (arith, c.span_at.ensures, room.0)

pub caller-at-requires : goal.caller-at-requires
caller-at-requires c = let up = c.loop-at.invariant.up in (omega (arith, c.loop-at-test.true), omega (arith, c.requires.held))

pub loop-at-preserved : goal.loop-at-preserved
loop-at-preserved c =
    let t = c.args.self.now in
    let n = length-take-le t.held t.facts.now (rows_fit t) in
    let up = c.loop-at.invariant.up in
    let within = c.loop-at.invariant.within in
    let long = spans (state_of t).rows (rows_hang t) c.loop-at.at (omega (arith, c.requires.held)) in
    let room = chain_room (state_of t).rows c.loop-at.invariant in
    chain_more (state_of t).rows c.loop-at.invariant c.write_stretch.new.out c.caller-at.result c.span_at.result (omega (arith, c.span_at.ensures, room.0, c.requires.fits.1)) c.caller-at.ensures.less c.caller-at.ensures.below c.write_stretch.ensures

pub returns : goal.returns
returns c = chain_end (state_of c.args.self.now).rows c.loop-at.invariant c.loop-at-test.false c.requires.long
