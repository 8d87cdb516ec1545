use Rattle.std.proofs.Common.{◌∙◌, rules}
use Rattle.inquiry.proofs.Wholes.{table_then, answer_then, told_then}
use Rattle.inquiry.proofs.inquiring.inquire.Goals as goal

pub returns : goal.returns
returns g c =
    let m = g.R.AccessRule.meaning in
    let w = g.W.Watch.watching in
    let on = c.args.on.now in
    let facts = c.args.facts.now in
    let edges = c.args.edges.now in
    let k = c.args.allowed in
    let i = c.open-inquiry.result in
    let j = c.dig.new.self in
    let es = c.open-inquiry.new.edges in
    let o = c.open-inquiry.ensures in
    let d = c.dig.ensures in
    let answer = answer_then m w on facts edges k i j es o.refusal o.opening o.places o.state o.edges d.state c.close.result d.grown.fits c.close.ensures.answer in
    let same = d.grown.same ∙ o.same in
    let closed = c.close.ensures.table in
    record {
      answer = answer;
      facts = search rules ∙ table_then m w on facts edges k i j es o.refusal o.opening o.places o.state o.edges d.state d.grown o.rest;
      edges = o.edges;
      told = told_then m w on facts edges k c.close.result answer;
    }
