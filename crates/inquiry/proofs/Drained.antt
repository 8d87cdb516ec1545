-- Rows that an iterator gives are the rows of a list, and rows at some numbers of a range are those at the numbers that pass a test.
use Rattle.std.proofs.Common.{◌≡◌, ℕ, zero, suc, ◌+◌, ◌-◌, Bool, true, false, cond, List, [], ◌∷◌, ◌++◌, map, filter, Option, sym, refl, ap, ◌∙◌, add-one, arith}
use Rattle.std.specs.Iterator.{Drains}
use Rattle.std.specs.List.{range_with_len}
use Rattle.std.proofs.lemmas.Iterator.{YieldsList, items_from_drains}
use Rattle.std.proofs.lemmas.List.{map-id}
use Rattle.model.specs.Tables.{each_of, each_from}

-- what was taken of an iterator until it was empty is the list that it gives
pub drained : {S A : Type 0} {steps : S → Option A → S → Type 0} {s : S} {all : List A} (xs : List A) → Drains steps s xs → YieldsList steps (λ x. x) s all → xs ≡ all
drained xs (u, (t, yields, none)) gives = sym (map-id xs) ∙ items_from_drains xs (t, yields, λ _. (u, none)) gives

-- one at each number of a range that passes a test, and none at any other
passed : {A : Type 0} (test : ℕ → Bool) (row : ℕ → A) (k i : ℕ) → map row (filter test (range_with_len i k)) ≡ each_of k i (λ n. cond (test n) (row n ∷ []) [])
unfolding each_of
passed test row zero i = refl
passed {A} test row (suc k) i = by (test i) _ (passed test row k (i + 1) ∙ ap (λ j. each_of k j (λ n. cond (test n) (row n ∷ []) [])) (add-one i))
  where
    by : (b : Bool) (xs : List ℕ) {ys : List A} → map row xs ≡ ys → map row (cond b (i ∷ xs) xs) ≡ cond b (row i ∷ []) [] ++ ys
    by true xs rest = ap (λ ys. row i ∷ ys) rest
    by false xs rest = rest

pub each_passed : {A : Type 0} (test : ℕ → Bool) (row : ℕ → A) (n : ℕ) → map row (filter test (range_with_len 0 n)) ≡ each_from 0 n (λ m. cond (test m) (row m ∷ []) [])
each_passed test row n = let all : n ≡ n - 0 = omega arith in passed test row n 0 ∙ ap (λ k. each_of k 0 (λ m. cond (test m) (row m ∷ []) [])) all
