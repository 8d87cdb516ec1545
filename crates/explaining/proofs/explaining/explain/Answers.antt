use Rattle.std.proofs.Common.{IfSome, subst, sym}
use Rattle.explaining.specs.Shown.{Shows}
use Rattle.explaining.proofs.Showing.{shown}
use Rattle.explaining.proofs.Law.{told, named}
use Rattle.explaining.proofs.explaining.explain.Goals as goal

pub returns-clause-broken : goal.returns-clause-broken
returns-clause-broken c = told c.args.file.now c.args.refusal _ c.explanation_of.ensures

pub returns-clause-shows : goal.returns-clause-shows
returns-clause-shows c = subst (λ o. IfSome o (λ e. Shows e.what e.broken)) (sym c.explanation_of.ensures) (shown c.args.file.now c.args.refusal)

pub returns-clause-named : goal.returns-clause-named
returns-clause-named c = λ first. (told c.args.file.now c.args.refusal _ c.explanation_of.ensures).1 (named c.args.file.now c.args.refusal first)
