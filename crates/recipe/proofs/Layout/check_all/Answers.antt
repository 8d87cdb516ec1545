use Rattle.std.proofs.Common.{sym, ◌∙◌}
use Rattle.recipe.proofs.Stages.{exit, nodes, entries, edges, told_of, in_methods, in_nodes, in_entries, in_edges, in_rows}
use Rattle.recipe.proofs.Layout.check_all.Goals as goal

pub returns-in_err-divided : goal.returns-in_err-divided
returns-in_err-divided c =
    let l = c.args.self.now in
    exit _ _ c.from_residual.ensures.1 ∙ sym (in_methods l.file.now _ (sym c.in_err-divided.ensures.answer))

pub returns-in_err-check_nodes : goal.returns-in_err-check_nodes
returns-in_err-check_nodes c =
    let l = c.args.self.now in
    let same = c.in_ok-divided.ensures.of in
    exit _ _ c.from_residual-in_err-check_nodes.ensures.1 ∙ sym (in_nodes l.file.now _ (sym c.in_ok-divided.ensures.answer) (told_of nodes _ _ same _ c.in_err-check_nodes.ensures))

pub returns-in_err-check_entries : goal.returns-in_err-check_entries
returns-in_err-check_entries c =
    let l = c.args.self.now in
    let same = c.in_ok-divided.ensures.of in
    exit _ _ c.from_residual-in_err-check_entries.ensures.1
    ∙ sym (in_entries l.file.now _ (sym c.in_ok-divided.ensures.answer) (told_of nodes _ _ same _ c.in_ok-check_nodes.ensures) (told_of entries _ _ same _ c.in_err-check_entries.ensures))

pub returns-in_err-check_edges : goal.returns-in_err-check_edges
returns-in_err-check_edges c =
    let l = c.args.self.now in
    let same = c.in_ok-divided.ensures.of in
    exit _ _ c.from_residual-in_err-check_edges.ensures.1
    ∙ sym (in_edges l.file.now _ (sym c.in_ok-divided.ensures.answer) (told_of nodes _ _ same _ c.in_ok-check_nodes.ensures) (told_of entries _ _ same _ c.in_ok-check_entries.ensures) (told_of edges _ _ same _ c.in_err-check_edges.ensures))

pub returns : goal.returns
returns c =
    let l = c.args.self.now in
    let same = c.in_ok-divided.ensures.of in
    c.check_rows.ensures
    ∙ sym (in_rows l.file.now (sym c.in_ok-divided.ensures.answer) (told_of nodes _ _ same _ c.in_ok-check_nodes.ensures) (told_of entries _ _ same _ c.in_ok-check_entries.ensures) (told_of edges _ _ same _ c.in_ok-check_edges.ensures))
