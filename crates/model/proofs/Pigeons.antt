-- Lists of different elements, each of which another list has: no longer than that list, and if no shorter, the same elements in some order.
use Rattle.std.proofs.Common.{◌≡◌, ◌≢◌, ℕ, suc, ◌<◌, ◌≤◌, ◌⊎◌, List, [], ◌∷◌, length, get_or, remove, sym, inl, inr, arith, IsPermutation, Contains}
use Rattle.std.proofs.lemmas.List.{nil_from_length}
use Rattle.std.proofs.lemmas.List.Sorted.{IsPermutation-refl, IsPermutation-sym, IsPermutation-trans, IsPermutation-cons, IsPermutation-remove, length_permutation, Contains-permutation}
use Rattle.std.proofs.lemmas.Bool.{cases_lt}
use Rattle.model.proofs.Lists.{has_cases}

-- no two places of a list have one element
abbrev pub Apart : {X : Type 0} → X → List X → Type 0
Apart d xs = (i j : ℕ) → i < j → j < length xs → get_or xs i d ≢ get_or xs j d

-- each element of a list is one of another
abbrev pub Within : {X : Type 0} → X → List X → List X → Type 0
Within d xs ys = (i : ℕ) → i < length xs → Contains ys (get_or xs i d)

module _ {X : Type 0} (d : X) where
  -- without its first element, which stands at place k of the other list, a list lies within the rest of that one
  within_rest : (x : X) (xs ys : List X) (k : ℕ) → Apart d (x ∷ xs) → Within d (x ∷ xs) ys → IsPermutation ys (x ∷ remove ys k) → Within d xs (remove ys k)
  within_rest x xs ys k apart within out i lt = by (has_cases x (remove ys k) (get_or xs i d) (Contains-permutation ys (x ∷ remove ys k) (get_or xs i d) out (within (suc i) (omega arith))))
    where
      by : (x ≡ get_or xs i d) ⊎ Contains (remove ys k) (get_or xs i d) → Contains (remove ys k) (get_or xs i d)
      by (inl same) = absurd (apart 0 (suc i) (omega arith) (omega arith) same)
      by (inr rest) = rest

  -- a list of different elements within a list that is no longer has the elements of that one
  pub pigeons : (xs ys : List X) → Apart d xs → Within d xs ys → length ys ≤ length xs → IsPermutation xs ys
  pigeons [] ys apart within few = rw (nil_from_length ys (omega arith)) (IsPermutation-refl [])
  pigeons (x ∷ xs) ys apart within few =
      let p = within 0 (omega arith) in
      let rest = remove ys p.0 in
      let out = IsPermutation-remove ys p.0 x p.1 (sym p.2) in
      let n = length_permutation ys (x ∷ rest) out in
      let same = pigeons xs rest (λ i j lt far. apart (suc i) (suc j) (omega arith) (omega arith)) (within_rest x xs ys p.0 apart within out) (omega arith) in
      IsPermutation-trans (x ∷ xs) (x ∷ rest) ys (IsPermutation-cons x xs rest same) (IsPermutation-sym ys (x ∷ rest) out)

  -- a list of different elements is no longer than a list that it is within
  pub no_more : (xs ys : List X) → Apart d xs → Within d xs ys → length xs ≤ length ys
  no_more xs ys apart within = by (cases_lt (length ys) (length xs))
    where
      by : (length ys < length xs) ⊎ (length xs ≤ length ys) → length xs ≤ length ys
      by (inl less) = let n = length_permutation xs ys (pigeons xs ys apart within (omega arith)) in omega arith
      by (inr le) = le
