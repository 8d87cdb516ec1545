use Rattle.std.proofs.Common.{◌≤◌, ◌++◌, length, ◌∙◌}
use Rattle.recipe.specs.Format.{word, method_bytes, node_bytes, edge_bytes, row_bytes}
use Rattle.samples.specs.Building.{cut, cut_method, cut_node, cut_edge, words, built}
use Rattle.samples.proofs.Cuts.{lawful_built}
use Rattle.samples.proofs.Lists.{all_taken, assembled}
use Rattle.samples.proofs.building.Parts.file.Goals as goal

pub returns : goal.returns
unfolding built
returns c =
    let p = c.args.self.now in
    let numbers = c.contents-n-items.ensures in
    let eight : length c.contents-n-items.result ≤ c.loop-n.n-index = rw numbers c.loop-n-test.false in
    let contents = all_taken (λ n. word (cut n)) c.new-file.result.items c.loop-n.file.items c.contents-n-items.result c.loop-n.n-index eight c.loop-n.invariant
    ∙ (λ i. c.new-file.ensures.items i ++ words (numbers i)) in
    let methods = all_taken (λ m. method_bytes (cut_method m)) c.loop-n.file.items c.loop-m.file.items p.methods.now c.loop-m.m-index c.loop-m-test.false c.loop-m.invariant in
    let nodes = all_taken (λ n. node_bytes (cut_node n)) c.loop-m.file.items c.loop-n-2.file.items p.nodes.now c.loop-n-2.n-index c.loop-n-2-test.false c.loop-n-2.invariant in
    let edges = all_taken (λ e. edge_bytes (cut_edge e)) c.loop-n-2.file.items c.loop-e.file.items p.edges.now c.loop-e.e-index c.loop-e-test.false c.loop-e.invariant in
    let rows = all_taken row_bytes c.loop-e.file.items c.loop-cells.file.items p.rows.now c.loop-cells.cells-index c.loop-cells-test.false c.loop-cells.invariant in
    let whole = assembled _ _ _ _ _ c.loop-n.file.items c.loop-m.file.items c.loop-n-2.file.items c.loop-e.file.items c.loop-cells.file.items contents methods nodes edges rows in
    record { built = whole; lawful = λ law. whole ∙ lawful_built p law }
