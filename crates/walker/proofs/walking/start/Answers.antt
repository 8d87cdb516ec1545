use Rattle.std.proofs.Common.{rules, [], set, Ok, Err}
use Rattle.recipe.specs.declared.grounds.Refusal.TheVariants.{StackFull}
use Rattle.rules.specs.Subjects.{setting_of}
use Rattle.walker.proofs.Walks.{first_told}
use Rattle.walker.proofs.walking.start.Goals as goal

pub returns-then-is_empty-clause-told : goal.returns-then-is_empty-clause-told
returns-then-is_empty-clause-told g c es =
    let X = setting_of g.R.AccessRule.meaning g.W.Watch.watching c.args.on.now [] in
    first_told X.program es X.rule X.watch c.args.node c.args.stack.now c.args.stack.now (Err (StackFull 0)) (search rules) (search rules)

pub returns-clause-told : goal.returns-clause-told
returns-clause-told g c es =
    let X = setting_of g.R.AccessRule.meaning g.W.Watch.watching c.args.on.now [] in
    first_told X.program es X.rule X.watch c.args.node c.args.stack.now (set c.args.stack.now 0 (record { node = c.args.node; value = c.first.result })) (Ok c.stand.result) (search rules) (search rules)
