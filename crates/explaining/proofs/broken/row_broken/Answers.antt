use Rattle.std.proofs.Common.{ℕ, Some, ◌∙◌, arith, below_more}
use Rattle.std.proofs.lemmas.Bool.Decides.{nat_tests}
use Rattle.recipe.specs.Bytes.{cell_in}
use Rattle.recipe.specs.Offence.{cell_test}
use Rattle.recipe.proofs.Firsts.{each_first, each_done}
use Rattle.explaining.specs.declared.explanation.Rule.TheVariants.{WrongCell}
use Rattle.explaining.specs.Rules.{row_rules}
use Rattle.explaining.proofs.broken.row_broken.Goals as goal

pub returns-then-cell-ne255 : goal.returns-then-cell-ne255
unfolding row_rules
returns-then-cell-ne255 c =
    let bs = c.args.file.now in
    let r = c.args.row in
    (λ i. Some (WrongCell c.loop-mark.mark (c.cell-cell.ensures i)))
    ∙ each_first (cell_test bs r) (λ (m : ℕ). WrongCell m (cell_in bs r m)) 32 c.loop-mark.mark (omega arith) c.loop-mark.invariant (grind (arith, nat_tests))

pub loop-mark-preserved : goal.loop-mark-preserved
loop-mark-preserved c = below_more _ _ c.loop-mark.invariant (let e = c.else-cell-rows.either in grind (arith, nat_tests))

pub returns : goal.returns
unfolding row_rules
returns c =
    let bs = c.args.file.now in
    let r = c.args.row in
    each_done (cell_test bs r) (λ (m : ℕ). WrongCell m (cell_in bs r m)) 32 c.loop-mark.mark (omega arith) c.loop-mark.invariant
