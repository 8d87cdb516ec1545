use Rattle.std.proofs.Common.{◌≡◌, ◌++◌, length, drop, replicate, ap, ◌∙◌, rules}
use Rattle.std.proofs.lemmas.Iterator.{items_from_collect}
use Rattle.std.proofs.lemmas.Iterator.Consumers.{YieldsList-from_first}
use Rattle.std.proofs.lemmas.List.{take_at}
use Rattle.std.proofs.lemmas.Result.{IfOk-at_ok}
use Rattle.std.specs.String.{string_bytes}
use Rattle.recipe.specs.Recipes.{file_of, own_edges}
use Rattle.recipe.specs.Writing.{listed_edges}
use Rattle.recipe.specs.Sequences.{left_in_file}
use Rattle.walker.specs.Walking.{no_frame}
use Rattle.following.specs.Told.{setting_in, step_text, rest_text}
use Rattle.following.proofs.Rests.{own_listed, whole_text}
use Rattle.following.proofs.telling.walk.Goals as goal

pub returns : goal.returns
returns g c =
    let X = setting_in (g.R.AccessRule.meaning c.args.rule.now) (file_of c.args.recipe.now) in
    let first = c.in-Some.first.now in
    let others = c.in-Some.others.now in
    let step = c.start-step.result in
    let own : c.in_ok-edges.edges.items ≡ own_edges c.args.recipe.now =
    IfOk-at_ok (λ v. v.items ≡ own_edges c.args.recipe.now) c.in_ok-edges.was (items_from_collect c.collect.result c.collect.ensures.ran (YieldsList-from_first (λ x. x) left_in_file _ c.own_edges.ensures)) in
    let edges : listed_edges X.program c.deref.result.now ≡ own_edges c.args.recipe.now = ap (listed_edges X.program) (c.deref.ensures.value ∙ own) ∙ own_listed c.args.recipe.now in
    let lent : c.deref_mut.result.now ≡ replicate (length c.args.nodes.now) no_frame = c.deref_mut.ensures.value ∙ c.in_ok-stack.ensures.items_if_clones_equal (λ y same. same) ∙ ap (replicate (length c.args.nodes.now)) (search rules) in
    let stack : c.deref_mut-2.result.now ≡ c.start-step.new.stack =
    c.deref_mut-2.ensures.value ∙ take_at c.start-step.new.stack (drop (length c.start-step.new.stack) c.in_ok-stack.stack.items) c.in_ok-stack.stack.len (c.start-step.auto.stack ∙ c.deref_mut.ensures.len) in
    let text : string_bytes c.tell.new.text ≡ step_text X.program step first 0 = c.in_ok-tell.ensures ∙ ap (λ t. t ++ step_text X.program step first 0) c.new-text.ensures.bytes in
    let rest : string_bytes c.walk_on.new.text ≡ string_bytes c.tell.new.text ++ rest_text X others 1 (record { at = step; stack = c.start-step.new.stack }) =
    c.in_ok-walk_on.ensures ∙ (λ i. string_bytes c.tell.new.text
    ++ rest_text (record { program = X.program; edges = edges i; rule = X.rule; watch = X.watch }) others 1 (record { at = step; stack = stack i })) in
    rest ∙ whole_text X c.args.nodes.now first others (string_bytes c.tell.new.text) step c.deref_mut.result.now c.start-step.new.stack c.in-Some.ensures.cases.0 lent c.start-step.ensures.answer c.start-step.ensures.frames text
