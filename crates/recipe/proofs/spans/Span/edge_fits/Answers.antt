use Rattle.std.proofs.Common.{sym, ap, ◌∙◌, arith}
use Rattle.std.proofs.lemmas.Bool.Decides.{nat_tests}
use Rattle.model.specs.Program.{is_return}
use Rattle.recipe.proofs.Scans.{edge_test_lem, span_within}
use Rattle.recipe.proofs.spans.Span.edge_fits.Goals as goal

pub node_at-from-requires : goal.node_at-from-requires
node_at-from-requires c =
    let s = c.args.self in
    let h = span_within s.of.layout.now.file.now s.of.sums s.method s.spans.0 in
    let e = s.spans.2 in
    omega arith

pub returns-then-not-is_return : goal.returns-then-not-is_return
returns-then-not-is_return c =
    let e = edge_test_lem c.args.self c.args.e c.requires.low c.requires.high in
    let k = c.is_return.ensures ∙ ap (λ n. is_return n.kind) c.node_at-from.ensures in
    sym (e ∙ grind (arith, nat_tests))
