-- Sets of rights and the numbers that stand for them: union is bit_or, intersection is bit_and, and a check's test says what the subset says.
use Rattle.std.proofs.Common.{◌≡◌, ℕ, zero, suc, ◌+◌, ◌/◌, ◌%◌, ◌^◌, ◌≤◌, min, max, true, ◌&&◌, ◌||◌, eqb, sym, ap, ◌∙◌, arith}
use mathlib.Core.Path.{fun_ext}
use lib.Bits.{bit_and, bit_or, and_step, or_step, and_zero_l, and_shr, or_shr}
use Rattle.std.proofs.lemmas.Nat.{shr-shr}
use Rattle.std.proofs.lemmas.Bool.{eqb-true, eq-eqb, and_parts}
use Rattle.std.proofs.lemmas.Bool.Decides.{nat_tests}
use Rattle.model.specs.Access.{holds}
use Rattle.model.specs.Models.{union, meet, Subset, rights_in}

-- the last bit of a union, and of an intersection
or_last : (a b : ℕ) → eqb (bit_or a b % 2) 1 ≡ (eqb (a % 2) 1 || eqb (b % 2) 1)
or_last a b =
    let h : bit_or a b % 2 ≡ max (a % 2) (b % 2) = omega (arith, or_step a b) in
    rw h (grind (arith, nat_tests))

and_last : (a b : ℕ) → eqb (bit_and a b % 2) 1 ≡ (eqb (a % 2) 1 && eqb (b % 2) 1)
and_last a b =
    let h : bit_and a b % 2 ≡ min (a % 2) (b % 2) = omega (arith, and_step a b) in
    rw h (grind (arith, nat_tests))

pub rights_or : (a b : ℕ) → rights_in (bit_or a b) ≡ union (rights_in a) (rights_in b)
unfolding rights_in
rights_or a b = fun_ext (λ i. ap (λ n. eqb (n % 2) 1) (or_shr a b i) ∙ or_last (a / 2 ^ i) (b / 2 ^ i))

pub rights_and : (a b : ℕ) → rights_in (bit_and a b) ≡ meet (rights_in a) (rights_in b)
unfolding rights_in
rights_and a b = fun_ext (λ i. ap (λ n. eqb (n % 2) 1) (and_shr a b i) ∙ and_last (a / 2 ^ i) (b / 2 ^ i))

-- right i + 1 of a set is right i of its half
half_right : (a i : ℕ) → rights_in (a / 2) i ≡ rights_in a (1 + i)
unfolding rights_in
half_right a i = ap (λ n. eqb (n % 2) 1) (shr-shr a 1 i)

first_right : (a : ℕ) → rights_in a 0 ≡ eqb (a % 2) 1
unfolding rights_in
first_right a = let h : a / 1 % 2 ≡ a % 2 = omega arith in ap (λ n. eqb n 1) h

first_within : (a b : ℕ) → Subset (rights_in a) (rights_in b) → min (a % 2) (b % 2) ≡ a % 2
first_within a b sub =
    let h : eqb (a % 2) 1 ≡ true → eqb (b % 2) 1 ≡ true = λ e. sym (first_right b) ∙ sub 0 (first_right a ∙ e) in
    grind (arith, nat_tests)

-- a subset is its own intersection with the whole
within_from : (k a b : ℕ) → a ≤ k → Subset (rights_in a) (rights_in b) → bit_and a b ≡ a
within_from zero a b le sub = let e : a ≡ 0 = omega arith in rw e (and_zero_l b)
within_from (suc k) a b le sub =
    let rest = within_from k (a / 2) (b / 2) (omega arith) (λ i h. half_right b i ∙ sub (1 + i) (sym (half_right a i) ∙ h)) in
    let first = first_within a b sub in
    let both = and_step a b in
    omega arith

pub holds_subset : (required c : ℕ) → holds required c ≡ true → Subset (rights_in required) (rights_in c)
holds_subset required c h i has =
    let e : rights_in (bit_and required c) ≡ rights_in required = ap rights_in (eqb-true (bit_and required c) required h) in
    let m : rights_in (bit_and required c) ≡ meet (rights_in required) (rights_in c) = rights_and required c in
    (and_parts (rights_in required i) (rights_in c i) (ap (λ s. s i) (sym m ∙ e) ∙ has)).1

pub subset_holds : (required c : ℕ) → Subset (rights_in required) (rights_in c) → holds required c ≡ true
subset_holds required c sub = eq-eqb (bit_and required c) required (within_from required required c (omega arith) sub)
