use Rattle.std.proofs.Common.{sym, arith}
use Rattle.recipe.proofs.Firsts.{each_first, each_done}
use Rattle.recipe.proofs.Layout.check_rows.Goals as goal

pub returns-then-not-row_fits : goal.returns-then-not-row_fits
returns-then-not-row_fits c = each_first _ _ _ _ (omega arith) c.loop-row.invariant (sym c.if-not-row_fits.ensures)

pub returns : goal.returns
returns c = each_done _ _ _ c.loop-row.row (omega arith) c.loop-row.invariant
