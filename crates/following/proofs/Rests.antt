-- What is said of the rest of a list: after one step more, at its end, and after a refusal.
use Rattle.std.proofs.Common.{◌≡◌, ℕ, ◌+◌, ◌<◌, ◌≤◌, List, [], ◌∷◌, ◌++◌, length, get_or, drop, replicate, Ok, Err, Result, OnOk, sym, refl, ap, ap₂, ◌∙◌}
use Rattle.std.proofs.lemmas.List.{drop_more, drop_all, take_all, append_assoc}
use Rattle.model.specs.declared.Frame.{Frame}
use Rattle.model.specs.Facts.{Setting}
use Rattle.model.specs.Program.{counted}
use Rattle.model.proofs.Edges.{lawful_counted}
use Rattle.recipe.specs.declared.Recipe.{Recipe}
use Rattle.recipe.specs.declared.grounds.Refusal.{Refusal}
use Rattle.recipe.specs.Recipes.{program, own_edges}
use Rattle.recipe.specs.Writing.{listed_edges}
use Rattle.recipe.proofs.Standing.{stands}
use Rattle.walker.specs.declared.stands.Stand.{Stand}
use Rattle.walker.specs.Walking.{no_frame, Walked, step_first, step_from, step_answer, step_stack, first_walked}
use Rattle.walker.proofs.Replays.{walk}
use Rattle.following.specs.Told.{step_text, end_text, rest_text, list_text}

-- what holds where there is an answer
pub on_ok : {A E P Q : Type 0} (r : Result A E) → (P → Q) → OnOk r P → OnOk r Q
on_ok (Ok x) f h = f h
on_ok (Err e) f h = tt

-- a recipe's own edges all count
pub own_listed : (r : Recipe) → listed_edges (program r) (own_edges r) ≡ own_edges r
own_listed r = let law = stands r in ap (counted (program r)) (take_all 4096 (own_edges r) law.few_edges) ∙ lawful_counted (program r) (own_edges r) law

module _ (X : Setting) where
  -- the text and what is said of the rest are the same before and after a step
  pub rest_step : (ms : List ℕ) (i m : ℕ) (text longer : List ℕ) (step answer : Result Stand Refusal) (at : Stand) (stack last : List Frame) → i < length ms → get_or ms i 0 ≡ m → step ≡ Ok at
      → answer ≡ step_answer X.program X.watch (step_from X.program X.edges X.rule stack at.depth m) (length stack) at.state m 0 → last ≡ step_stack (step_from X.program X.edges X.rule stack at.depth m) stack
      → longer ≡ text ++ step_text X.program answer m (i + 1)
      → longer ++ rest_text X (drop (i + 1) ms) (i + 1 + 1) (record { at = answer; stack = last }) ≡ text ++ rest_text X (drop i ms) (i + 1) (record { at = step; stack = stack })
  unfolding rest_text
  rest_step ms i m text longer step answer at stack last lt here stands answers frames told =
      let line = step_text X.program answer m (i + 1) in
      let rest = rest_text X (drop (i + 1) ms) (i + 1 + 1) (record { at = answer; stack = last }) in
      let a : longer ++ rest ≡ text ++ (line ++ rest) = ap (λ t. t ++ rest) told ∙ append_assoc text line rest in
      let b : drop i ms ≡ m ∷ drop (i + 1) ms = drop_more ms i 0 lt ∙ ap (λ n. n ∷ drop (i + 1) ms) here in
      let c : line ++ rest ≡ rest_text X (m ∷ drop (i + 1) ms) (i + 1) (record { at = Ok at; stack = stack }) =
      ap (λ (w : Walked). step_text X.program w.at m (i + 1) ++ rest_text X (drop (i + 1) ms) (i + 1 + 1) w) (walk answers frames) in
      a ∙ ap (λ t. text ++ t) (c ∙ ap₂ (λ ns r. rest_text X ns (i + 1) (record { at = r; stack = stack })) (sym b) (sym stands))

  -- after the last step
  pub rest_end : (ms : List ℕ) (i : ℕ) (w : Walked) → length ms ≤ i → rest_text X (drop i ms) (i + 1) w ≡ end_text w.at
  unfolding rest_text
  rest_end ms i w far = ap (λ ns. rest_text X ns (i + 1) w) (drop_all i ms far)

  -- after a refusal
  pub rest_refused : (ms : List ℕ) (place : ℕ) (step : Result Stand Refusal) (stack : List Frame) → ((s : Stand) → step ≡ Ok s → ⊥) → rest_text X ms place (record { at = step; stack = stack }) ≡ []
  unfolding rest_text
  rest_refused ms place (Ok s) stack refused = absurd (refused s refl)
  rest_refused [] place (Err e) stack refused = refl
  rest_refused (m ∷ ms) place (Err e) stack refused = refl

  -- the whole list begins with its first step
  pub whole_text : (ns : List ℕ) (m : ℕ) (ms : List ℕ) (text : List ℕ) (answer : Result Stand Refusal) (stack last : List Frame) → ns ≡ m ∷ ms → stack ≡ replicate (length ns) no_frame
      → answer ≡ step_answer X.program X.watch (step_first X.program X.rule m) (length stack) X.watch.start m 0 → last ≡ step_stack (step_first X.program X.rule m) stack → text ≡ step_text X.program answer m 0
      → text ++ rest_text X ms 1 (record { at = answer; stack = last }) ≡ list_text X ns
  whole_text ns m ms text answer stack last split lent answers frames told =
      let room : stack ≡ replicate (length (m ∷ ms)) no_frame = lent ∙ ap (λ l. replicate (length l) no_frame) split in
      let made = λ (fs : List Frame). first_walked X.program X.rule X.watch m fs in
      let both = λ (w : Walked). step_text X.program w.at m 0 ++ rest_text X ms 1 w in
      ap (λ t. t ++ rest_text X ms 1 (record { at = answer; stack = last })) told ∙ ap both (walk answers frames) ∙ ap (λ fs. both (made fs)) room ∙ ap (list_text X) (sym split)
