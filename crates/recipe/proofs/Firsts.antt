-- Laws of the first offence: of two lists of tests after one another, and of one test for each number below n.
use Rattle.std.proofs.Common.{◌≡◌, ℕ, zero, suc, ◌+◌, ◌<◌, ◌≤◌, Bool, true, false, cond, List, [], ◌∷◌, ◌++◌, map, Some, None, Option, sym, refl, ap, ◌∙◌, add-zero, zero-add, arith}
use Rattle.std.specs.List.{range_with_len}
use Rattle.std.specs.Option.{option_or}
use Rattle.recipe.specs.Offence.{first_offence, each}

pub offence_here : {R : Type 0} (t : Bool) (r : R) (ts : List (Bool × R)) → t ≡ false → first_offence ((t, r) ∷ ts) ≡ Some r
unfolding first_offence
offence_here t r ts e = rw e

pub offence_past : {R : Type 0} (t : Bool) (r : R) (ts : List (Bool × R)) → t ≡ true → first_offence ((t, r) ∷ ts) ≡ first_offence ts
unfolding first_offence
offence_past t r ts e = rw e

-- where nothing is refused, the first test passed, and nothing is refused of the rest
pub passed : {R : Type 0} (t : Bool) (r : R) (ts : List (Bool × R)) → first_offence ((t, r) ∷ ts) ≡ None → (t ≡ true) × (first_offence ts ≡ None)
unfolding first_offence
passed true r ts e = (refl, e)
passed false r ts e = cc

pub offence_append : {R : Type 0} (xs ys : List (Bool × R)) → first_offence (xs ++ ys) ≡ option_or (first_offence xs) (first_offence ys)
unfolding first_offence
offence_append [] ys = refl
offence_append {R} (t ∷ xs) ys = step t.0 t.1 (offence_append xs ys)
  where
    step : (b : Bool) (r : R) → first_offence (xs ++ ys) ≡ option_or (first_offence xs) (first_offence ys) → cond b (first_offence (xs ++ ys)) (Some r) ≡ option_or (cond b (first_offence xs) (Some r)) (first_offence ys)
    step true r h = h
    step false r h = refl

-- the first list's offence comes first; where it has none, the second's does
pub first_of_two : {R : Type 0} (xs ys : List (Bool × R)) (r : R) → first_offence xs ≡ Some r → first_offence (xs ++ ys) ≡ Some r
first_of_two xs ys r e = offence_append xs ys ∙ ap (λ o. option_or o (first_offence ys)) e

pub second_of_two : {R : Type 0} (xs ys : List (Bool × R)) → first_offence xs ≡ None → first_offence (xs ++ ys) ≡ first_offence ys
second_of_two xs ys e = offence_append xs ys ∙ ap (λ o. option_or o (first_offence ys)) e

-- where nothing is refused of two lists, nothing is refused of either
pub none_of_both : {R : Type 0} (xs ys : List (Bool × R)) → first_offence (xs ++ ys) ≡ None → (first_offence xs ≡ None) × (first_offence ys ≡ None)
none_of_both {R} xs ys e = split (first_offence xs) refl
  where
    split : (o : Option R) → first_offence xs ≡ o → (first_offence xs ≡ None) × (first_offence ys ≡ None)
    split None f = (f, let h = offence_append xs ys in cc)
    split (Some r) f = let h = offence_append xs ys in cc

module _ {R : Type 0} (f : ℕ → Bool) (g : ℕ → R) where
  abbrev test : ℕ → Bool × R
  test k = (f k, g k)

  first_from : (n a k : ℕ) → k < n → ((j : ℕ) → j < k → f (a + j) ≡ true) → f (a + k) ≡ false → first_offence (map test (range_with_len a n)) ≡ Some (g (a + k))
  first_from zero a k lt before here = absurd (omega arith)
  first_from (suc n) a zero lt before here =
      rw add-zero (offence_here (f a) (g a) (map test (range_with_len (a + 1) n)) (rw add-zero at here))
  first_from (suc n) a (suc k) lt before here =
      let e : a + 1 + k ≡ a + suc k = omega arith in
      let p : f a ≡ true = rw add-zero at (before 0 (omega arith)) in
      offence_past (f a) (g a) (map test (range_with_len (a + 1) n)) p
      ∙ first_from n (a + 1) k (omega arith) (λ j h. let i : a + 1 + j ≡ a + suc j = omega arith in rw i (before (suc j) (omega arith))) (rw e here)
      ∙ ap (λ m. Some (g m)) e

  none_from : (n a : ℕ) → ((j : ℕ) → j < n → f (a + j) ≡ true) → first_offence (map test (range_with_len a n)) ≡ None
  unfolding first_offence
  none_from zero a all = refl
  none_from (suc n) a all =
      let p : f a ≡ true = rw add-zero at (all 0 (omega arith)) in
      offence_past (f a) (g a) (map test (range_with_len (a + 1) n)) p
      ∙ none_from n (a + 1) (λ j h. let i : a + 1 + j ≡ a + suc j = omega arith in rw i (all (suc j) (omega arith)))

  passes_from : (n a : ℕ) → first_offence (map test (range_with_len a n)) ≡ None → (j : ℕ) → j < n → f (a + j) ≡ true
  passes_from zero a e j lt = absurd (omega arith)
  passes_from (suc n) a e zero lt = rw add-zero (passed (f a) (g a) (map test (range_with_len (a + 1) n)) e).0
  passes_from (suc n) a e (suc j) lt =
      let i : a + suc j ≡ a + 1 + j = omega arith in
      rw i (passes_from n (a + 1) (passed (f a) (g a) (map test (range_with_len (a + 1) n)) e).1 j (omega arith))

  -- the least number whose test fails is the one that is refused
  pub each_first : (n k : ℕ) → k < n → ((j : ℕ) → j < k → f j ≡ true) → f k ≡ false → Some (g k) ≡ first_offence (each n f g)
  each_first n k lt before here =
      let e = zero-add k in
      sym (first_from n 0 k lt (λ j h. let i = zero-add j in rw i (before j h)) (rw e here) ∙ ap (λ m. Some (g m)) e)

  pub each_none : (n : ℕ) → ((j : ℕ) → j < n → f j ≡ true) → first_offence (each n f g) ≡ None
  each_none n all = none_from n 0 (λ j h. let i = zero-add j in rw i (all j h))

  -- where the tests passed up to the end, none is refused
  pub each_done : (n k : ℕ) → n ≤ k → ((j : ℕ) → j < k → f j ≡ true) → None ≡ first_offence (each n f g)
  each_done n k le all = sym (each_none n (λ j h. all j (omega arith)))

  pub each_passes : (n : ℕ) → first_offence (each n f g) ≡ None → (j : ℕ) → j < n → f j ≡ true
  each_passes n e j h = let i = zero-add j in rw i at (passes_from n 0 e j h)
