use Rattle.std.proofs.Common.{Some, sym, ap, ◌∙◌, inl, inr, arith}
use Rattle.recipe.proofs.Standing.{rows_count, cell_within, cell_past_rows, cell_past_marks}
use Rattle.recipe.proofs.Recipe.cell.Goals as goal

pub cell-requires : goal.cell-requires
cell-requires c = let h = rows_count c.args.self.now in omega arith

pub returns-then-mark-lt32 : goal.returns-then-mark-lt32
returns-then-mark-lt32 c = ap Some c.cell.ensures ∙ sym (cell_within c.args.self.now c.args.row c.args.mark (omega arith) (omega arith))

pub returns-else-row-rows : goal.returns-else-row-rows
returns-else-row-rows c =
    let r = c.args.self.now in
    let n = c.rows.ensures in
    elim c.else-row-rows.either [
      | inl h ↦ sym (cell_past_marks r c.args.row c.args.mark (omega (arith, h.0)) h.1)
      | inr h ↦ sym (cell_past_rows r c.args.row c.args.mark (omega (arith, h)))
    ]
