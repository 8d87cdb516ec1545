use Rattle.std.proofs.Common.{◌≡◌, length, sym, ap, ◌∙◌, rules, arith}
use Rattle.std.proofs.lemmas.Grind.{common_steps}
use Rattle.model.specs.Tables.{capped}
use Rattle.inquiry.specs.Calls.{unless, trace_length, trace_output}
use Rattle.inquiry.specs.Inquiries.{state_of}
use Rattle.inquiry.proofs.Showing.{trace_long, trace_written, trace_may, trace_bad}
use Rattle.inquiry.proofs.Reaching.{trace_next}
use Rattle.inquiry.proofs.Inquiry.trace.Goals as goal

pub returns-clause-output : goal.returns-clause-output
returns-clause-output g c =
    let t = c.args.self.now in
    let W = g.W.Watch.watching c.args.watch.now in
    let out = c.args.out.now in
    let first = c.in-Some.ensures in
    let long : c.trace_length-length.result ≡ trace_length W (state_of t) = c.trace_length-length.ensures ∙ ap capped (trace_long W (state_of t).rows c.in-Some.at first.1) in
    let may = trace_may W t (c.in_ok-self.was) first.0 (length out) (omega (arith, c.if-length-out.false)) (omega (arith, c.if-length.false)) in
    trace_written W (state_of t).rows c.in-Some.at first.1 out c.write_trace.new.out c.write_trace.ensures ∙ ap (λ o. unless o (trace_output W (state_of t) out) out) (sym may)

pub returns-clause-bad : goal.returns-clause-bad
returns-clause-bad g c =
    let t = c.args.self.now in
    let W = g.W.Watch.watching c.args.watch.now in
    let first = c.in-Some.ensures in
    let whole = trace_long W (state_of t).rows c.in-Some.at first.1 in
    trace_bad W t (c.in_ok-self.was) first.0 c.trace_length-length.result c.args.out.now c.write_trace.new.out (omega (arith, c.trace_length-length.ensures, c.if-length.false))
    (trace_written W (state_of t).rows c.in-Some.at first.1 c.args.out.now c.write_trace.new.out c.write_trace.ensures)

pub returns-in_default-clause-history : goal.returns-in_default-clause-history
returns-in_default-clause-history g c = λ C same. trace_next C c.args.self.now c.args.out.now _ _ (g.W.Watch.watching c.args.watch.now) (sym same) (search rules) (search rules)

pub returns-then-length-clause-history : goal.returns-then-length-clause-history
returns-then-length-clause-history g c = λ C same. trace_next C c.args.self.now c.args.out.now _ _ (g.W.Watch.watching c.args.watch.now) (sym same) (grind (arith, common_steps)) (grind (arith, common_steps))

pub returns-clause-history : goal.returns-clause-history
returns-clause-history g c = λ C same. trace_next C c.args.self.now c.args.out.now _ _ (g.W.Watch.watching c.args.watch.now) (sym same) (grind (arith, common_steps)) (returns-clause-output g c)
