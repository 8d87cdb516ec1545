use Rattle.std.proofs.Common.{◌≡◌, ℕ, ◌+◌, ◌-◌, get_or, take, Err, refl, arith, rules}
use Rattle.recipe.specs.declared.grounds.Refusal.TheVariants.{NotAStep, StackFull}
use Rattle.rules.specs.Subjects.{setting_of}
use Rattle.walker.specs.Walking.{no_frame}
use Rattle.walker.proofs.Walks.{step_told, step_made}
use Rattle.walker.proofs.walking.go.Goals as goal
use Rattle.walker.proofs.walking.go.Goals.{in-Nop-default, in-Check-default, in-Call-default+else-depth-stack-2, in-Return-default}

pub returns-then-depth-stack-2-clause-told : goal.returns-then-depth-stack-2-clause-told
returns-then-depth-stack-2-clause-told g c =
    let X = setting_of g.R.AccessRule.meaning g.W.Watch.watching c.args.on.now (take 4096 c.args.edges.now) in
    step_told X.program X.edges X.rule X.watch c.args.depth c.args.state c.args.node c.args.stack.now c.args.stack.now (Err (StackFull 0)) (search rules) (search rules)

pub returns-in_default-clause-told : goal.returns-in_default-clause-told
returns-in_default-clause-told g c =
    let X = setting_of g.R.AccessRule.meaning g.W.Watch.watching c.args.on.now (take 4096 c.args.edges.now) in
    step_told X.program X.edges X.rule X.watch c.args.depth c.args.state c.args.node c.args.stack.now c.args.stack.now (Err (NotAStep 0)) (search rules) (search rules)

pub returns-in_default-2-clause-told : goal.returns-in_default-2-clause-told
returns-in_default-2-clause-told g c =
    let X = setting_of g.R.AccessRule.meaning g.W.Watch.watching c.args.on.now (take 4096 c.args.edges.now) in
    step_told X.program X.edges X.rule X.watch c.args.depth c.args.state c.args.node c.args.stack.now c.args.stack.now (Err (NotAStep 0)) (search rules) (search rules)

pub returns-in_default-3-clause-told : goal.returns-in_default-3-clause-told
returns-in_default-3-clause-told g c =
    let X = setting_of g.R.AccessRule.meaning g.W.Watch.watching c.args.on.now (take 4096 c.args.edges.now) in
    step_told X.program X.edges X.rule X.watch c.args.depth c.args.state c.args.node c.args.stack.now c.args.stack.now (Err (NotAStep 0)) (search rules) (search rules)

pub returns-in_default-4-clause-told : goal.returns-in_default-4-clause-told
returns-in_default-4-clause-told g c =
    let X = setting_of g.R.AccessRule.meaning g.W.Watch.watching c.args.on.now (take 4096 c.args.edges.now) in
    step_told X.program X.edges X.rule X.watch c.args.depth c.args.state c.args.node c.args.stack.now c.args.stack.now (Err (NotAStep 0)) (search rules) (search rules)

pub returns-in_default-5-clause-told : goal.returns-in_default-5-clause-told
returns-in_default-5-clause-told g c =
    let X = setting_of g.R.AccessRule.meaning g.W.Watch.watching c.args.on.now (take 4096 c.args.edges.now) in
    step_told X.program X.edges X.rule X.watch c.args.depth c.args.state c.args.node c.args.stack.now c.args.stack.now (Err (NotAStep 0)) (search rules) (search rules)

pub returns : goal.returns
returns g c =
    let X = setting_of g.R.AccessRule.meaning g.W.Watch.watching c.args.on.now (take 4096 c.args.edges.now) in
    let d = c.args.depth in
    let m = c.args.node in
    let top = get_or c.args.stack.now (d - 1) no_frame in
    let call = get_or c.args.stack.now (d - 2) no_frame in
    let made = λ (e v : ℕ). step_made X.program X.edges X.rule X.watch d c.args.state m e (record { node = m; value = v }) c.args.stack.now c.match-node_at.stack c.match-node_at.depth c.stand.result in
    elim c.match-node_at.branch [
      | in-Nop-default w ↦ let s = made d top.value (search rules) refl (omega arith) (omega arith) w.stack-is w.depth-is c.stand.ensures in record { answer = s.0; frames = s.1; told = s.2 }
      | in-Check-default w ↦ let s = made d top.value (search rules) refl (omega arith) (omega arith) w.stack-is w.depth-is c.stand.ensures in record { answer = s.0; frames = s.1; told = s.2 }
      | in-Call-default+else-depth-stack-2 w ↦ let s = made (d + 1) (X.rule.enter top.value top.node m) (search rules) refl (omega arith) (omega arith) (let k : d ≡ d + 1 - 1 = omega arith in cc (w.stack-is, w.enter.ensures.answer)) w.depth-is c.stand.ensures in record { answer = s.0; frames = s.1; told = s.2 }
      | in-Return-default w ↦ let s = made (d - 1) (X.rule.back call.value call.node top.value top.node) (search rules) refl (omega arith) (omega arith) (let k : d - 2 ≡ d - 1 - 1 = omega arith in cc (w.stack-is, w.back-call.ensures.answer)) w.depth-is c.stand.ensures in record { answer = s.0; frames = s.1; told = s.2 }
    ]
