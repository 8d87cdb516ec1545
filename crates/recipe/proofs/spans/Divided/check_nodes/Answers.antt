use Rattle.std.proofs.Common.{sym, ◌∙◌, arith, below_more}
use Rattle.recipe.proofs.Firsts.{each_first, each_done}
use Rattle.recipe.proofs.Scans.{node_test_lem}
use Rattle.recipe.proofs.spans.Divided.check_nodes.Goals as goal

pub returns-then-not-node_fits : goal.returns-then-not-node_fits
returns-then-not-node_fits c =
    let at = c.seek-span.ensures in
    let e = node_test_lem c.seek-span.result c.args.self c.loop-n.n _ (at.of ∙ c.loop-n.invariant.0) at.low at.high c.rights.ensures in
    each_first _ _ _ _ (omega arith) c.loop-n.invariant.2 (e ∙ sym c.if-not-node_fits.ensures)

pub loop-n-preserved : goal.loop-n-preserved
loop-n-preserved c =
    let at = c.seek-span.ensures in
    let same = at.of ∙ c.loop-n.invariant.0 in
    let e = node_test_lem c.seek-span.result c.args.self c.loop-n.n _ same at.low at.high c.rights.ensures in
    (same, omega arith, below_more _ _ c.loop-n.invariant.2 (e ∙ sym c.if-not-node_fits.ensures))

pub returns : goal.returns
returns c = each_done _ _ _ c.loop-n.n (omega arith) c.loop-n.invariant.2
