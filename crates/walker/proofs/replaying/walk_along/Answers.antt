use Rattle.std.proofs.Common.{◌≡◌, ◌+◌, length, get_or, drop, take, Ok, Err, sym, ap, ◌∙◌, rules}
use Rattle.std.proofs.lemmas.Result.{err_from_is_err_and}
use Rattle.rules.specs.Subjects.{setting_of}
use Rattle.walker.specs.Walking.{replay_from, replayed, step_from, placed}
use Rattle.walker.proofs.Replays.{walk, replay_more, replay_end, replay_refused, answer_refused, answer_stands, mapped_ok, mapped_err}
use Rattle.walker.proofs.replaying.walk_along.Goals as goal

-- the first node is refused, and the walk goes no further
pub returns-in_err-at : goal.returns-in_err-at
returns-in_err-at g c =
    let X = setting_of g.R.AccessRule.meaning g.W.Watch.watching c.args.on.now (take 4096 c.args.edges.now) in
    let e = err_from_is_err_and c.from_residual.result c.from_residual.ensures.1 in
    let whole = ap (λ ns. replayed X.program X.edges X.rule X.watch ns c.args.stack.now) c.in-Some.ensures.cases.0
    ∙ ap (replay_from X.program X.edges X.rule X.watch c.in-Some.others.now 1) (walk (sym c.start.ensures.answer ∙ c.in_err-at.was) (sym c.start.ensures.frames))
    ∙ replay_refused X.program X.edges X.rule X.watch c.in-Some.others.now 1 c.in_err-at.field-0.0 c.start.new.stack in
    record { answer = e.1 ∙ ap Err e.2 ∙ sym (ap (λ w. w.at) whole); frames = sym (ap (λ w. w.stack) whole) }

-- a later one is
pub returns-in_err-at-2 : goal.returns-in_err-at-2
returns-in_err-at-2 g c =
    let X = setting_of g.R.AccessRule.meaning g.W.Watch.watching c.args.on.now (take 4096 c.args.edges.now) in
    let others = c.in-Some.others.now in
    let i = c.loop-i.i-counter in
    let m = get_or others i 0 in
    let s = step_from X.program X.edges X.rule c.loop-i.stack c.loop-i.at.depth m in
    let made = mapped_err c.go.result c.map_err.result c.in_err-at-2.field-0.0 _ c.map_err.ensures.cases c.in_err-at-2.was in
    let a = answer_refused X.program X.watch (length c.loop-i.stack) c.loop-i.at.state m (i + 1) s made.0 (sym c.go.ensures.answer ∙ made.1) in
    let whole = ap (λ ns. replayed X.program X.edges X.rule X.watch ns c.args.stack.now) c.in-Some.ensures.cases.0
    ∙ ap (replay_from X.program X.edges X.rule X.watch others 1) (walk (sym c.start.ensures.answer ∙ c.in_ok-at.was) (sym c.start.ensures.frames))
    ∙ sym c.loop-i.invariant ∙ replay_more X.program X.edges X.rule X.watch others i (i + 1) (record { at = Ok c.loop-i.at; stack = c.loop-i.stack }) c.loop-i-test.true
    ∙ ap (replay_from X.program X.edges X.rule X.watch (drop (i + 1) others) (i + 1 + 1)) (walk a (sym c.go.ensures.frames))
    ∙ replay_refused X.program X.edges X.rule X.watch (drop (i + 1) others) (i + 1 + 1) _ c.go.new.stack in
    let e = err_from_is_err_and c.from_residual-in_err-at-2.result c.from_residual-in_err-at-2.ensures.1 in
    let told : c.from_residual-in_err-at-2.result ≡ Err (placed made.0 (i + 1)) = search rules in
    record { answer = told ∙ sym (ap (λ w. w.at) whole); frames = sym (ap (λ w. w.stack) whole) }

pub loop-i-preserved : goal.loop-i-preserved
loop-i-preserved g c =
    let X = setting_of g.R.AccessRule.meaning g.W.Watch.watching c.args.on.now (take 4096 c.args.edges.now) in
    let others = c.in-Some.others.now in
    let i = c.loop-i.i-counter in
    let m = get_or others i 0 in
    let s = step_from X.program X.edges X.rule c.loop-i.stack c.loop-i.at.depth m in
    let a = answer_stands X.program X.watch (length c.loop-i.stack) c.loop-i.at.state m (i + 1) s c.in_ok-at-2.at (sym c.go.ensures.answer ∙ mapped_ok c.go.result c.map_err.result c.in_ok-at-2.at _ c.map_err.ensures.cases c.in_ok-at-2.was) in
    sym (replay_more X.program X.edges X.rule X.watch others i (i + 1) (record { at = Ok c.loop-i.at; stack = c.loop-i.stack }) c.loop-i-test.true
    ∙ ap (replay_from X.program X.edges X.rule X.watch (drop (i + 1) others) (i + 1 + 1)) (walk a (sym c.go.ensures.frames))) ∙ c.loop-i.invariant

-- all are steps
pub returns : goal.returns
returns g c =
    let X = setting_of g.R.AccessRule.meaning g.W.Watch.watching c.args.on.now (take 4096 c.args.edges.now) in
    let others = c.in-Some.others.now in
    let whole = ap (λ ns. replayed X.program X.edges X.rule X.watch ns c.args.stack.now) c.in-Some.ensures.cases.0
    ∙ ap (replay_from X.program X.edges X.rule X.watch others 1) (walk (sym c.start.ensures.answer ∙ c.in_ok-at.was) (sym c.start.ensures.frames))
    ∙ sym c.loop-i.invariant ∙ replay_end X.program X.edges X.rule X.watch others c.loop-i.i-counter (c.loop-i.i-counter + 1) (record { at = Ok c.loop-i.at; stack = c.loop-i.stack }) c.loop-i-test.false in
    record { answer = sym (ap (λ w. w.at) whole); frames = sym (ap (λ w. w.stack) whole) }
