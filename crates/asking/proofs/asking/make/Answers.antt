use Rattle.std.proofs.Common.{◌≡◌, ◌++◌, length, drop, min, Ok, Err, refl, subst, sym, ap, ◌∙◌, rules, arith}
use Rattle.inquiry.specs.declared.requests.Reply.TheVariants.{Dug, Linked, Judged, Traced}
use Rattle.inquiry.specs.declared.requests.Request.{Request}
use Rattle.inquiry.specs.declared.requests.Request.TheVariants.{Trace}
use Rattle.inquiry.specs.Reached.{replied}
use Rattle.asking.specs.Asked.{within}
use Rattle.asking.specs.Made.{Made}
use Rattle.asking.proofs.Making.{dig_made, link_made, verdict_made, trace_made}
use Rattle.asking.proofs.asking.make.Goals as goal

pub returns-in_ok-dig-in-Dig : goal.returns-in_ok-dig-in-Dig
returns-in_ok-dig-in-Dig g c =
    let made = dig_made g.R.AccessRule.meaning g.W.Watch.watching c.args.on.now c.args.inquiry.now c.args.edges.now c.in-Dig.allowed c.dig.new.self c.args.output.now c.dig.result (Ok (Dug c.in_ok-dig-in-Dig.field-0)) c.dig.ensures.answer c.dig.ensures.state c.dig.ensures.grown c.dig.ensures.history
    (ap (replied Dug) (sym c.in_ok-dig-in-Dig.was)) in
    subst (λ q. Made g.R.AccessRule.meaning g.W.Watch.watching c.args.on.now (within (length c.args.output.now) q) c.args.inquiry.now c.args.edges.now c.args.output.now c.dig.new.self c.args.edges.now c.args.output.now (Ok (Dug c.in_ok-dig-in-Dig.field-0))) (sym c.in-Dig.is) made

pub returns-in_err-dig-in-Dig : goal.returns-in_err-dig-in-Dig
returns-in_err-dig-in-Dig g c =
    let reply = c.from_residual.result in
    let is : reply ≡ Err c.in_err-dig-in-Dig.field-0.0 = search rules in
    let made = dig_made g.R.AccessRule.meaning g.W.Watch.watching c.args.on.now c.args.inquiry.now c.args.edges.now c.in-Dig.allowed c.dig.new.self c.args.output.now c.dig.result reply c.dig.ensures.answer c.dig.ensures.state c.dig.ensures.grown c.dig.ensures.history
    (is ∙ ap (replied Dug) (sym c.in_err-dig-in-Dig.was)) in
    subst (λ q. Made g.R.AccessRule.meaning g.W.Watch.watching c.args.on.now (within (length c.args.output.now) q) c.args.inquiry.now c.args.edges.now c.args.output.now c.dig.new.self c.args.edges.now c.args.output.now reply) (sym c.in-Dig.is) made

pub returns-in_ok-link-in-Link : goal.returns-in_ok-link-in-Link
returns-in_ok-link-in-Link g c =
    let made = link_made g.R.AccessRule.meaning g.W.Watch.watching c.args.on.now c.args.inquiry.now c.args.edges.now c.in-Link.from c.in-Link.to c.link.new.self c.link.new.edges c.args.output.now c.link.result (Ok (Linked c.in_ok-link-in-Link.field-0)) c.link.ensures.answer c.link.ensures.state c.link.ensures.edges c.link.ensures.used c.link.ensures.kept c.link.ensures.history
    (ap (replied (λ n. Linked n)) (sym c.in_ok-link-in-Link.was)) in
    subst (λ q. Made g.R.AccessRule.meaning g.W.Watch.watching c.args.on.now (within (length c.args.output.now) q) c.args.inquiry.now c.args.edges.now c.args.output.now c.link.new.self c.link.new.edges c.args.output.now (Ok (Linked c.in_ok-link-in-Link.field-0))) (sym c.in-Link.is) made

pub returns-in_err-link-in-Link : goal.returns-in_err-link-in-Link
returns-in_err-link-in-Link g c =
    let reply = c.from_residual-in_err-link-in-Link.result in
    let is : reply ≡ Err c.in_err-link-in-Link.field-0.0 = search rules in
    let made = link_made g.R.AccessRule.meaning g.W.Watch.watching c.args.on.now c.args.inquiry.now c.args.edges.now c.in-Link.from c.in-Link.to c.link.new.self c.link.new.edges c.args.output.now c.link.result reply c.link.ensures.answer c.link.ensures.state c.link.ensures.edges c.link.ensures.used c.link.ensures.kept c.link.ensures.history
    (is ∙ ap (replied (λ n. Linked n)) (sym c.in_err-link-in-Link.was)) in
    subst (λ q. Made g.R.AccessRule.meaning g.W.Watch.watching c.args.on.now (within (length c.args.output.now) q) c.args.inquiry.now c.args.edges.now c.args.output.now c.link.new.self c.link.new.edges c.args.output.now reply) (sym c.in-Link.is) made

pub returns-in_ok-verdict-in-Verdict : goal.returns-in_ok-verdict-in-Verdict
returns-in_ok-verdict-in-Verdict g c =
    let made = verdict_made g.R.AccessRule.meaning g.W.Watch.watching c.args.on.now c.args.inquiry.now c.args.edges.now c.args.output.now c.verdict.result (Ok (Judged c.in_ok-verdict-in-Verdict.field-0)) c.verdict.ensures.answer
    (λ C same. c.verdict.ensures.history C c.args.edges.now same) (ap (replied Judged) (sym c.in_ok-verdict-in-Verdict.was)) in
    subst (λ q. Made g.R.AccessRule.meaning g.W.Watch.watching c.args.on.now (within (length c.args.output.now) q) c.args.inquiry.now c.args.edges.now c.args.output.now c.args.inquiry.now c.args.edges.now c.args.output.now (Ok (Judged c.in_ok-verdict-in-Verdict.field-0))) (sym c.in-Verdict.is) made

pub returns-in_ok-trace-in-Trace : goal.returns-in_ok-trace-in-Trace
returns-in_ok-trace-in-Trace g c =
    let room : c.min-room.result ≡ min c.in-Trace.room (length c.args.output.now) = search rules in
    let made = trace_made g.R.AccessRule.meaning g.W.Watch.watching c.args.on.now c.args.inquiry.now c.args.edges.now c.args.output.now c.min-room.result (omega arith) c.trace.new.out c.trace.result (Ok (Traced c.in_ok-trace-in-Trace.field-0)) c.trace.ensures.answer c.trace.ensures.output c.trace.ensures.history
    (ap (replied (λ n. Traced n)) (sym c.in_ok-trace-in-Trace.was)) in
    let later = c.trace.new.out ++ drop c.min-room.result c.args.output.now in
    let Q = λ (q : Request). Made g.R.AccessRule.meaning g.W.Watch.watching c.args.on.now q c.args.inquiry.now c.args.edges.now c.args.output.now c.args.inquiry.now c.args.edges.now later (Ok (Traced c.in_ok-trace-in-Trace.field-0)) in
    subst (λ q. Q (within (length c.args.output.now) q)) (sym c.in-Trace.is) (subst (λ n. Q (Trace n)) room made)

pub returns-in_err-trace-in-Trace : goal.returns-in_err-trace-in-Trace
returns-in_err-trace-in-Trace g c =
    let room : c.min-room.result ≡ min c.in-Trace.room (length c.args.output.now) = search rules in
    let is : c.from_residual-in_err-trace-in-Trace.result ≡ Err c.in_err-trace-in-Trace.field-0.0 = search rules in
    let made = trace_made g.R.AccessRule.meaning g.W.Watch.watching c.args.on.now c.args.inquiry.now c.args.edges.now c.args.output.now c.min-room.result (omega arith) c.trace.new.out c.trace.result c.from_residual-in_err-trace-in-Trace.result c.trace.ensures.answer c.trace.ensures.output c.trace.ensures.history
    (is ∙ ap (replied (λ n. Traced n)) (sym c.in_err-trace-in-Trace.was)) in
    let later = c.trace.new.out ++ drop c.min-room.result c.args.output.now in
    let Q = λ (q : Request). Made g.R.AccessRule.meaning g.W.Watch.watching c.args.on.now q c.args.inquiry.now c.args.edges.now c.args.output.now c.args.inquiry.now c.args.edges.now later c.from_residual-in_err-trace-in-Trace.result in
    subst (λ q. Q (within (length c.args.output.now) q)) (sym c.in-Trace.is) (subst (λ n. Q (Trace n)) room made)
