use Rattle.std.proofs.Common.{Ok, ◌∙◌}
use Rattle.recipe.proofs.Places.{laid}
use Rattle.recipe.proofs.Stages.{exit}
use Rattle.recipe.proofs.Verdicts.{legal_checked}
use Rattle.recipe.proofs.Layout.checked.Goals as goal

pub returns-in_err-check_all-clause-legal : goal.returns-in_err-check_all-clause-legal
returns-in_err-check_all-clause-legal c =
    let l = c.args.self in
    legal_checked l.file.now _ l.bytes (laid l) (exit _ _ c.from_residual.ensures.1 ∙ c.in_err-check_all.ensures)

pub returns-clause-legal : goal.returns-clause-legal
returns-clause-legal c =
    let l = c.args.self in
    legal_checked {T = Unit {0}} l.file.now (Ok tt) l.bytes (laid l) c.in_ok-check_all.ensures
