-- A list that is gone through: the next of what is left of it, and what is left then.
use Rattle.std.proofs.Common.{◌≡◌, ℕ, ◌+◌, ◌-◌, ◌<◌, List, [], ◌∷◌, ◌++◌, length, get_or, take, drop, sym, ap, ◌∙◌, arith}
use Rattle.std.proofs.lemmas.List.{drop_more, take_more, length-drop}

module _ {A : Type 0} (xs : List A) (k : ℕ) (x : A) (rest : List A) (next : drop k xs ≡ x ∷ rest) where
  pub next_lt : k < length xs
  next_lt = let n : length xs - k ≡ length (x ∷ rest) = sym (length-drop k xs) ∙ ap length next in omega arith

  pub next_is : (d : A) → get_or xs k d ≡ x
  next_is d = ap (λ ys. get_or ys 0 d) (sym (drop_more xs k d next_lt) ∙ next)

  pub next_rest : rest ≡ drop (k + 1) xs
  next_rest = ap (drop 1) (sym next ∙ drop_more xs k x next_lt)

  pub next_taken : take (k + 1) xs ≡ take k xs ++ x ∷ []
  next_taken = take_more xs k x next_lt ∙ ap (λ y. take k xs ++ y ∷ []) (next_is x)
