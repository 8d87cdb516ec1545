-- Lists that are made of records, one after another, each of the same width: their length, and what is read of them by number. Tests at each number below n.
use Rattle.std.proofs.Common.{◌≡◌, ℕ, zero, suc, ◌+◌, ◌*◌, ◌<◌, ◌≤◌, Bool, true, false, ◌||◌, ◌⊎◌, List, [], ◌∷◌, ◌++◌, length, get_or, sym, refl, ◌∙◌, inl, inr, append_assoc, zero-add, mul-zero, mul-suc, arith, length-append}
use Rattle.std.specs.Bool.{MatchBool}
use Rattle.std.specs.List.{flat_map, range_with_len, AllWithin, HoldsAt}
use Rattle.std.proofs.lemmas.List.FromFn.{length-range_with_len, get_or-range_with_len}
use Rattle.std.proofs.lemmas.List.{get_or-append-add, get_or_append_left}
use Rattle.std.proofs.lemmas.Bool.{and_from, and_parts, or_left, or_right, or_cases, cases_lt, cases_Bool, both_ways, false≢true}
use Rattle.recipe.specs.Offence.{all_below, any_below}

-- what stands after n elements, at place n + i
pub get_d_after : {X : Type 0} (xs ys : List X) (n i j : ℕ) (d : X) → length xs ≡ n → n + i ≡ j → get_or (xs ++ ys) j d ≡ get_or ys i d
get_d_after xs ys n i j d e f = let g : j ≡ length xs + i = omega arith in rw g (get_or-append-add xs ys i d)

-- each record of the list is w wide
abbrev pub Wide : {X : Type 0} → (X → List ℕ) → ℕ → X → List X → Type 0
Wide enc w d xs = (k : ℕ) → k < length xs → length (enc (get_or xs k d)) ≡ w

module _ {X : Type 0} (enc : X → List ℕ) (w : ℕ) (d : X) where
  pub length_joined : (xs : List X) → Wide enc w d xs → length (flat_map enc xs) ≡ w * length xs
  length_joined [] wide = sym (mul-zero w)
  length_joined (x ∷ xs) wide =
      let e : length (enc x) ≡ w = wide 0 (omega arith) in
      let h = length_joined xs (λ k l. wide (suc k) (omega arith)) in
      omega (arith, length-append (enc x) (flat_map enc xs), mul-suc w (length xs))

  -- byte i of record k
  pub get_or_joined : (xs : List X) (rest : List ℕ) (k i j : ℕ) → Wide enc w d xs → k < length xs → i < w → w * k + i ≡ j → get_or (flat_map enc xs ++ rest) j 0 ≡ get_or (enc (get_or xs k d)) i 0
  get_or_joined [] rest k i j wide l m f = absurd (omega arith)
  get_or_joined (x ∷ xs) rest zero i j wide l m f =
      let e : length (enc x) ≡ w = wide 0 (omega arith) in
      let g : j ≡ i = omega (arith, mul-zero w) in
      rw (append_assoc (enc x) (flat_map enc xs) rest, g) (get_or_append_left (enc x) (flat_map enc xs ++ rest) 0 i (omega arith))
  get_or_joined (x ∷ xs) rest (suc k) i j wide l m f =
      let e : length (enc x) ≡ w = wide 0 (omega arith) in
      let g : w + (w * k + i) ≡ j = omega (arith, mul-suc w k) in
      rw (append_assoc (enc x) (flat_map enc xs) rest)
      (get_d_after (enc x) (flat_map enc xs ++ rest) w (w * k + i) j 0 e g
      ∙ get_or_joined xs rest k i (w * k + i) (λ a b. wide (suc a) (omega arith)) (omega arith) m refl)

pub all_below_from : (n : ℕ) (f : ℕ → Bool) → ((k : ℕ) → k < n → f k ≡ true) → all_below n f ≡ true
unfolding all_below
all_below_from zero f all = refl
all_below_from (suc n) f all = and_from (f n) (all_below n f) (all n (omega arith)) (all_below_from n f (λ k h. all k (omega arith)))

pub all_below_at : (n : ℕ) (f : ℕ → Bool) → all_below n f ≡ true → (k : ℕ) → k < n → f k ≡ true
unfolding all_below
all_below_at zero f e k h = absurd (omega arith)
all_below_at (suc n) f e k h = at (cases_lt k n) (λ l. all_below_at n f (and_parts (f n) (all_below n f) e).1 k l)
  where
    at : (k < n) ⊎ (n ≤ k) → (k < n → f k ≡ true) → f k ≡ true
    at (inl l) below = below l
    at (inr l) below = let i : k ≡ n = omega arith in rw i (and_parts (f n) (all_below n f) e).0

pub all_below_fails : (n : ℕ) (f : ℕ → Bool) (k : ℕ) → k < n → f k ≡ false → all_below n f ≡ false
all_below_fails n f k lt e = elim (cases_Bool (all_below n f)) [ inl h ↦ absurd (both_ways (f k) e (all_below_at n f h k lt)) | inr h ↦ h ]

pub any_below_from : (n : ℕ) (f : ℕ → Bool) (k : ℕ) → k < n → f k ≡ true → any_below n f ≡ true
unfolding any_below
any_below_from zero f k h e = absurd (omega arith)
any_below_from (suc n) f k h e = at (cases_lt k n) (λ l. any_below_from n f k l e)
  where
    at : (k < n) ⊎ (n ≤ k) → (k < n → any_below n f ≡ true) → (f n || any_below n f) ≡ true
    at (inl l) below = or_right (f n) (any_below n f) (below l)
    at (inr l) below = let i : n ≡ k = omega arith in or_left (f n) (any_below n f) (rw i e)

pub any_below_some : (n : ℕ) (f : ℕ → Bool) → any_below n f ≡ true → (k : ℕ) × (k < n) × (f k ≡ true)
unfolding any_below
any_below_some zero f e = absurd (false≢true e)
any_below_some (suc n) f e = at (or_cases (f n) (any_below n f) e) (λ h. any_below_some n f h)
  where
    at : (f n ≡ true) ⊎ (any_below n f ≡ true) → (any_below n f ≡ true → (k : ℕ) × (k < n) × (f k ≡ true)) → (k : ℕ) × (k < suc n) × (f k ≡ true)
    at (inl h) below = (n, omega arith, h)
    at (inr h) below = let b = below h in (b.0, omega arith, b.2)

pub any_below_none : (n : ℕ) (f : ℕ → Bool) → ((k : ℕ) → k < n → f k ≡ false) → any_below n f ≡ false
any_below_none n f none = elim (cases_Bool (any_below n f)) [ inl h ↦ let w = any_below_some n f h in absurd (both_ways (f w.0) (none w.0 w.1) w.2) | inr h ↦ h ]

-- whether a test passes at some number of a range, and whether at all of those from 0 on
pub any_over : (first n : ℕ) (f : ℕ → Bool) (r : Bool)
    → MatchBool r ((k : ℕ) × (k < length (range_with_len first n)) × HoldsAt (λ x. f x ≡ true) (range_with_len first n) k) (AllWithin (λ x. f x ≡ false) (range_with_len first n) 0 (length (range_with_len first n)))
    → r ≡ any_below n (λ j. f (first + j))
any_over first n f true (k, lt, at) =
    let h : k < n = let l = length-range_with_len first n in omega arith in
    sym (any_below_from n (λ j. f (first + j)) k h (rw get_or-range_with_len at (at 0)))
any_over first n f false none =
    let l = length-range_with_len first n in
    sym (any_below_none n (λ j. f (first + j)) (λ k h. rw get_or-range_with_len at (none k 0 (omega arith) (omega arith))))

pub all_over : (n : ℕ) (f : ℕ → Bool) (r : Bool)
    → MatchBool r (AllWithin (λ x. f x ≡ true) (range_with_len 0 n) 0 (length (range_with_len 0 n))) ((k : ℕ) × (k < length (range_with_len 0 n)) × HoldsAt (λ x. f x ≡ false) (range_with_len 0 n) k)
    → r ≡ all_below n f
all_over n f true all =
    let l = length-range_with_len 0 n in
    sym (all_below_from n f (λ k h. rw (get_or-range_with_len, zero-add) at (all k 0 (omega arith) (omega arith))))
all_over n f false (k, lt, at) =
    let h : k < n = let l = length-range_with_len 0 n in omega arith in
    sym (all_below_fails n f k h (rw (get_or-range_with_len, zero-add) at (at 0)))
