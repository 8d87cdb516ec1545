use Rattle.std.proofs.Common.{◌≡◌, ◌+◌, ◌++◌, drop, take, get_or, sym, refl, ap, ◌∙◌}
use Rattle.std.proofs.lemmas.List.{append-nil}
use Rattle.std.specs.String.{string_bytes}
use Rattle.rules.specs.Subjects.{setting_of}
use Rattle.following.specs.Told.{end_text}
use Rattle.following.proofs.Rests.{on_ok, rest_step, rest_end, rest_refused}
use Rattle.following.proofs.telling.walk_on.Goals as goal

pub loop-i-preserved : goal.loop-i-preserved
loop-i-preserved g c =
    let X = setting_of g.R.AccessRule.meaning g.W.Watch.watching c.args.on.now (take 4096 c.args.edges.now) in
    let m = get_or c.args.others.now c.loop-i.i 0 in
    rest_step X c.args.others.now c.loop-i.i m (string_bytes c.loop-i.text) (string_bytes c.tell.new.text) c.loop-i.step c.go-step.result c.in-Ok.at c.loop-i.stack c.go-step.new.stack
    c.loop-i-test.true refl c.in-Ok.is c.go-step.ensures.answer c.go-step.ensures.frames c.in_ok-tell.ensures ∙ c.loop-i.invariant

pub returns-in_default : goal.returns-in_default
returns-in_default g c =
    let X = setting_of g.R.AccessRule.meaning g.W.Watch.watching c.args.on.now (take 4096 c.args.edges.now) in
    sym (ap (λ t. string_bytes c.loop-i.text ++ t) (rest_refused X (drop c.loop-i.i c.args.others.now) (c.loop-i.i + 1) c.loop-i.step c.loop-i.stack c.in_default.not-Ok) ∙ append-nil (string_bytes c.loop-i.text)) ∙ c.loop-i.invariant

pub returns : goal.returns
returns g c =
    let X = setting_of g.R.AccessRule.meaning g.W.Watch.watching c.args.on.now (take 4096 c.args.edges.now) in
    let ended = λ (h : string_bytes c.tell_end.new.text ≡ string_bytes c.loop-i.text ++ end_text c.loop-i.step).
    h ∙ ap (λ t. string_bytes c.loop-i.text ++ t) (sym (rest_end X c.args.others.now c.loop-i.i (record { at = c.loop-i.step; stack = c.loop-i.stack }) c.loop-i-test.false)) ∙ c.loop-i.invariant in
    on_ok c.tell_end.result ended c.tell_end.ensures
