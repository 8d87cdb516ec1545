use Rattle.std.proofs.Common.{Some, None, length, sym, refl, ◌∙◌, arith}
use Rattle.std.proofs.lemmas.Bool.{cond-true, cond-false, eq-eqb, ne_eqb}
use Rattle.recipe.specs.Recipes.{program}
use Rattle.rules.proofs.Lawfulness.{cell_steps}
use Rattle.rules.proofs.table.TableWatchWatch.step.Goals as goal

-- a cell that is defined
pub returns-in-Some-clause-answer : goal.returns-in-Some-clause-answer
returns-in-Some-clause-answer c =
    let rows = (program c.args.self.now.recipe.now).rows in
    (cell_steps c.args.self.now.recipe.now c.args.state c.args.mark (omega arith) (omega arith) (Some c.in-Some.next) c.in-Some.next (sym c.cell.ensures ∙ c.in-Some.is) (cond-false _ (length rows) _ (ne_eqb _ 255 c.if-next-ne255.true))).0

pub returns-in-Some-clause-below : goal.returns-in-Some-clause-below
returns-in-Some-clause-below c =
    let rows = (program c.args.self.now.recipe.now).rows in
    (cell_steps c.args.self.now.recipe.now c.args.state c.args.mark (omega arith) (omega arith) (Some c.in-Some.next) c.in-Some.next (sym c.cell.ensures ∙ c.in-Some.is) (cond-false _ (length rows) _ (ne_eqb _ 255 c.if-next-ne255.true))).1

-- one that is not
pub returns-in_default-clause-answer : goal.returns-in_default-clause-answer
returns-in_default-clause-answer c =
    let rows = (program c.args.self.now.recipe.now).rows in
    c.rows-rows.ensures ∙ (cell_steps c.args.self.now.recipe.now c.args.state c.args.mark (omega arith) (omega arith) (Some c.in-Some.next) (length rows) (sym c.cell.ensures ∙ c.in-Some.is) (cond-true _ (length rows) _ (eq-eqb _ 255 c.if-next-ne255.false))).0

-- no cell
pub returns-in_default-2-clause-answer : goal.returns-in_default-2-clause-answer
returns-in_default-2-clause-answer c =
    let rows = (program c.args.self.now.recipe.now).rows in
    c.rows-rows.ensures ∙ (cell_steps c.args.self.now.recipe.now c.args.state c.args.mark (omega arith) (omega arith) None (length rows) (sym c.cell.ensures ∙ c.in_default.is) refl).0
