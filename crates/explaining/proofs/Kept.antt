-- Lists of rules: which of them are kept, and which is broken.
use Rattle.std.proofs.Common.{◌≡◌, Bool, true, false, ◌⊎◌, List, [], ◌∷◌, ◌++◌, Some, None, Option, sym, refl, ◌∙◌, inl, inr}
use Rattle.std.proofs.lemmas.Bool.{false≢true, cases_Bool}
use Rattle.recipe.specs.Offence.{first_offence}
use Rattle.recipe.proofs.Firsts.{offence_past, passed, first_of_two}
use Rattle.explaining.specs.declared.explanation.Rule.{Rule}

-- a list of rules with one that is broken
pub unkept : (t : Bool) (r : Rule) (ts : List (Bool × Rule)) → t ≡ false → first_offence ((t, r) ∷ ts) ≡ None → ⊥
unkept t r ts e none = false≢true (sym e ∙ (passed t r ts none).0)

pub unkept_past : (t : Bool) (r : Rule) (ts : List (Bool × Rule)) → (first_offence ts ≡ None → ⊥) → first_offence ((t, r) ∷ ts) ≡ None → ⊥
unkept_past t r ts h none = h (passed t r ts none).1

-- four rules that are kept, and five
pub kept_4 : (a b c d : Bool) (p q r s : Rule) → a ≡ true → b ≡ true → c ≡ true → d ≡ true → first_offence ((a, p) ∷ (b, q) ∷ (c, r) ∷ (d, s) ∷ []) ≡ None
unfolding first_offence
kept_4 a b c d p q r s x y z w = rw (x, y, z, w)

pub kept_5 : (a b c d e : Bool) (p q r s t : Rule) → a ≡ true → b ≡ true → c ≡ true → d ≡ true → e ≡ true → first_offence ((a, p) ∷ (b, q) ∷ (c, r) ∷ (d, s) ∷ (e, t) ∷ []) ≡ None
unfolding first_offence
kept_5 a b c d e p q r s t x y z w v = rw (x, y, z, w, v)

-- of one rule, and of two
pub one_broken : (t : Bool) (r : Rule) → (first_offence ((t, r) ∷ []) ≡ None → ⊥) → t ≡ false
unfolding first_offence
one_broken t r h = elim (cases_Bool t) [ inl e ↦ absurd (h (offence_past t r [] e)) | inr e ↦ e ]

pub both_tests : (t u : Bool) (r s : Rule) → (first_offence ((t, r) ∷ (u, s) ∷ []) ≡ None → ⊥) → (t ≡ false) ⊎ (u ≡ false)
unfolding first_offence
both_tests t u r s h = elim (cases_Bool t) [
  | inl e ↦ inr (one_broken u s (λ none. h (offence_past t r ((u, s) ∷ []) e ∙ none)))
  | inr e ↦ inl e
]

-- a rule of the first list that is broken comes first
pub first_stays : {R : Type 0} (xs ys : List (Bool × R)) (o : Option R) → o ≡ first_offence xs → (o ≡ None → ⊥) → o ≡ first_offence (xs ++ ys)
first_stays xs ys None e h = absurd (h refl)
first_stays xs ys (Some r) e h = sym (first_of_two xs ys r (sym e))
