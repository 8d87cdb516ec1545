-- One more entry behind those of the methods so far.
use Rattle.std.proofs.Common.{◌≡◌, ℕ, ◌<◌, ◌≤◌, ◌⊎◌, true, List, [], ◌∷◌, ◌++◌, length, get_or, ap, sym, ◌∙◌, inl, inr, arith}
use Rattle.std.proofs.lemmas.Bool.{cases_lt}
use Rattle.std.proofs.lemmas.List.{get_or_append_left, get_or_at, length_push}
use Rattle.model.specs.Program.{Program, is_entry_of}

pub entries_more : (p : Program) (xs ys : List ℕ) (n : ℕ) → ys ≡ xs ++ n ∷ [] → is_entry_of p (length xs) n ≡ true → ((k : ℕ) → k < length xs → is_entry_of p k (get_or xs k 0) ≡ true)
    → (k : ℕ) → k < length ys → is_entry_of p k (get_or ys k 0) ≡ true
entries_more p xs ys n e h each k lt = by (cases_lt k (length xs))
  where
    by : (k < length xs) ⊎ (length xs ≤ k) → is_entry_of p k (get_or ys k 0) ≡ true
    by (inl l) = ap (is_entry_of p k) (ap (λ zs. get_or zs k 0) e ∙ get_or_append_left xs (n ∷ []) 0 k l) ∙ each k l
    by (inr r) =
        let long = ap (λ (zs : List ℕ). length zs) e ∙ length_push xs n in
        let last : length xs ≡ k = omega arith in
        ap (is_entry_of p k) (ap (λ zs. get_or zs k 0) e ∙ get_or_at xs n [] 0 k last) ∙ ap (λ j. is_entry_of p j n) (sym last) ∙ h
