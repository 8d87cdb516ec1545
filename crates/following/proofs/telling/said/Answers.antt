use Rattle.std.proofs.Common.{◌≡◌, ℕ, List, map, Some, None, Ok, sym, ap, ◌∙◌}
use Rattle.std.proofs.lemmas.Result.{IfOk-weaker}
use Rattle.std.specs.String.{string_bytes}
use Rattle.model.specs.Access.{history, stack_inspection}
use Rattle.recipe.specs.Recipes.{file_of}
use Rattle.following.specs.Told.{named_text, walk_text}
use Rattle.following.specs.Words.{numbers_in, numbers_of}
use Rattle.following.proofs.Parsing.{told_of}
use Rattle.following.proofs.telling.said.Goals as goal

pub returns-in-Err-recipe_of : goal.returns-in-Err-recipe_of
returns-in-Err-recipe_of c =
    let says : Ok c.in-Ok.nodes.items ≡ numbers_in (map string_bytes c.in-Some.words.now) = ap numbers_of (sym c.in-Ok.is) ∙ c.in_ok-nodes.ensures in
    let told = told_of string_bytes c.args.file.now c.args.words.now c.in-Some.rule.now c.in-Some.words.now c.in-Ok.nodes.items (Some c.in-Err-recipe_of.refusal) c.in-Some.ensures.cases.0 says c.in-Err-recipe_of.ensures.answer in
    IfOk-weaker c.format-in-Err-recipe_of.result _ _ (λ text e. e ∙ sym told) c.format-in-Err-recipe_of.ensures.ok

pub returns-in-history : goal.returns-in-history
returns-in-history c =
    let file = c.args.file.now in
    let ns = c.in-Ok.nodes.items in
    let says : Ok ns ≡ numbers_in (map string_bytes c.in-Some.words.now) = ap numbers_of (sym c.in-Ok.is) ∙ c.in_ok-nodes.ensures in
    let told = told_of string_bytes file c.args.words.now c.in-Some.rule.now c.in-Some.words.now ns None c.in-Some.ensures.cases.0 says c.in-Ok-recipe_of.ensures.answer in
    let name = sym c.as_str.ensures.value ∙ c.in-history.is in
    let walked : walk_text history (file_of c.in-Ok-recipe_of.recipe) c.deref.result.now ≡ walk_text history file ns = λ i. walk_text history (c.in-Ok-recipe_of.ensures.filled i) (c.deref.ensures.value i) in
    IfOk-weaker c.walk.result _ _ (λ text e. e ∙ walked ∙ sym (told ∙ ap (λ (n : List ℕ). named_text n file ns) name)) c.walk.ensures

pub returns-in-stack : goal.returns-in-stack
returns-in-stack c =
    let file = c.args.file.now in
    let ns = c.in-Ok.nodes.items in
    let says : Ok ns ≡ numbers_in (map string_bytes c.in-Some.words.now) = ap numbers_of (sym c.in-Ok.is) ∙ c.in_ok-nodes.ensures in
    let told = told_of string_bytes file c.args.words.now c.in-Some.rule.now c.in-Some.words.now ns None c.in-Some.ensures.cases.0 says c.in-Ok-recipe_of.ensures.answer in
    let name = sym c.as_str.ensures.value ∙ c.in-stack.is in
    let walked : walk_text stack_inspection (file_of c.in-Ok-recipe_of.recipe) c.deref-in-stack.result.now ≡ walk_text stack_inspection file ns = λ i. walk_text stack_inspection (c.in-Ok-recipe_of.ensures.filled i) (c.deref-in-stack.ensures.value i) in
    IfOk-weaker c.walk-in-stack.result _ _ (λ text e. e ∙ walked ∙ sym (told ∙ ap (λ (n : List ℕ). named_text n file ns) name)) c.walk-in-stack.ensures
