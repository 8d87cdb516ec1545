-- One more right to look at, and one more number at the end of a row.
use Rattle.std.proofs.Common.{◌≡◌, ℕ, zero, suc, ◌+◌, ◌/◌, ◌%◌, ◌^◌, true, false, cond, List, [], ◌∷◌, ◌++◌, bit_and, eqb, sym, refl, ap, ◌∙◌, append_assoc, add-zero, add-one, arith}
use Rattle.std.specs.Fmt.{decimal}
use Rattle.std.specs.List.{filter, range_with_len}
use Rattle.std.proofs.lemmas.Bool.{eq-eqb, ne_eqb}
use Rattle.std.proofs.lemmas.List.{append-nil}
use Rattle.std.proofs.lemmas.List.Elements.{filter-append}
use Rattle.std.proofs.lemmas.Nat.Bits.{shr_and_one}
use Rattle.model.specs.Models.{rights_in}
use Rattle.showing.specs.Phrases.{rights_below, spaced}

range_more : (a n : ℕ) → range_with_len a (suc n) ≡ range_with_len a n ++ ((a + n) ∷ [])
range_more a zero = ap (λ k. k ∷ []) (sym (add-zero a))
range_more a (suc n) = rw add-one (ap (λ l. a ∷ l) (range_more (suc a) n ∙ ap (λ k. range_with_len (suc a) n ++ (k ∷ [])) (omega arith)))

rights_more : (set n : ℕ) → rights_below set (n + 1) ≡ rights_below set n ++ filter (rights_in set) (n ∷ [])
unfolding rights_below
rights_more set n =
    let e : 0 + n ≡ n = omega arith in
    rw add-one (ap (filter (rights_in set)) (range_more 0 n ∙ ap (λ k. range_with_len 0 n ++ (k ∷ [])) e) ∙ filter-append (rights_in set) (range_with_len 0 n) (n ∷ []))

-- the test of the code says whether the set has the right
pub rights_with : (set n : ℕ) → bit_and (set / 2 ^ n) 1 ≡ 1 → rights_below set (n + 1) ≡ rights_below set n ++ (n ∷ [])
unfolding rights_in
rights_with set n h =
    let has : eqb (set / 2 ^ n % 2) 1 ≡ true = eq-eqb _ _ (sym (shr_and_one set n) ∙ h) in
    rights_more set n ∙ ap (λ b. rights_below set n ++ cond b (n ∷ []) []) has

pub rights_without : (set n : ℕ) → (bit_and (set / 2 ^ n) 1 ≡ 1 → ⊥) → rights_below set (n + 1) ≡ rights_below set n
unfolding rights_in
rights_without set n h =
    let lacks : eqb (set / 2 ^ n % 2) 1 ≡ false = ne_eqb _ _ (λ e. h (shr_and_one set n ∙ e)) in
    rights_more set n ∙ ap (λ b. rights_below set n ++ cond b (n ∷ []) []) lacks ∙ append-nil _

-- what stands before the next number: nothing before the first, and then a blank
abbrev pub gap_after : List ℕ → List ℕ
gap_after [] = []
gap_after (n ∷ ns) = 32 ∷ []

pub spaced_more : (ns : List ℕ) (n : ℕ) → spaced (ns ++ (n ∷ [])) ≡ spaced ns ++ (gap_after ns ++ decimal n)
spaced_more [] n = refl
spaced_more (m ∷ []) n = refl
spaced_more (m ∷ k ∷ ns) n = ap (λ l. decimal m ++ (32 ∷ l)) (spaced_more (k ∷ ns) n) ∙ sym (append_assoc (decimal m) (32 ∷ spaced (k ∷ ns)) ((32 ∷ []) ++ decimal n))

-- behind a number stands a blank
pub gap_more : (ns : List ℕ) (n : ℕ) → gap_after (ns ++ (n ∷ [])) ≡ 32 ∷ []
gap_more [] n = refl
gap_more (m ∷ ns) n = refl
