use Rattle.std.proofs.Common.{Some, sym, ap, ◌∙◌, add-one, arith, below_more}
use Rattle.std.proofs.lemmas.Bool.{and_left, and_right}
use Rattle.recipe.specs.Offence.{edge_before}
use Rattle.recipe.proofs.Firsts.{each_first, each_done}
use Rattle.recipe.proofs.Scans.{edge_record, edge_in_span, far_edge, rises_from}
use Rattle.recipe.proofs.spans.Divided.check_edges.Goals as goal
use Rattle.recipe.proofs.spans.Divided.check_edges.Goals.{then-e-nodes-via-then-e-nodes, then-e-nodes-via-else-e-nodes+then-not-rises_after}

pub returns-then-e-nodes : goal.returns-then-e-nodes
returns-then-e-nodes c =
    let bs = c.args.self.layout.now.file.now in
    let r = edge_record bs c.loop-i.i c.loop-i.last c.edge-e.result c.edge-e.ensures c.loop-i.invariant.1 in
    each_first _ _ _ _ (omega arith) c.loop-i.invariant.3 (r ∙ elim c.then-e-nodes.branch [
      | then-e-nodes-via-then-e-nodes w ↦ and_left _ _ (far_edge bs c.edge-e.result (let h = w.if-e-nodes.true in omega arith))
      | then-e-nodes-via-else-e-nodes+then-not-rises_after w ↦ and_right _ _ (sym w.if-not-rises_after.ensures)
    ])

pub returns-then-not-edge_fits : goal.returns-then-not-edge_fits
returns-then-not-edge_fits c =
    let same = c.seek-span.ensures.of ∙ c.loop-i.invariant.0 in
    let r = edge_in_span c.seek-span.result c.args.self c.loop-i.i c.loop-i.last c.edge-e.result _ same c.edge-e.ensures c.loop-i.invariant.1 c.if-not-edge_fits.ensures in
    each_first _ _ _ _ (omega arith) c.loop-i.invariant.3 r

pub loop-i-preserved : goal.loop-i-preserved
loop-i-preserved c =
    let same = c.seek-span.ensures.of ∙ c.loop-i.invariant.0 in
    let r = edge_in_span c.seek-span.result c.args.self c.loop-i.i c.loop-i.last c.edge-e.result _ same c.edge-e.ensures c.loop-i.invariant.1 c.if-not-edge_fits.ensures in (
      same,
      ap Some c.edge-e.ensures ∙ ap (edge_before c.args.self.layout.now.file.now) (sym (add-one c.loop-i.i)),
      (λ e h. let f = rises_from c.edge-e.result e h in omega arith),
      below_more _ _ c.loop-i.invariant.3 (r ∙ sym c.if-not-rises_after.ensures),
    )

pub returns : goal.returns
returns c = each_done _ _ _ c.loop-i.i (omega arith) c.loop-i.invariant.3
