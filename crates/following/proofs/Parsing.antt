-- Words that say numbers.
use Rattle.std.proofs.Common.{◌≡◌, ℕ, ◌+◌, ◌<◌, ◌≤◌, Bool, true, false, cond, ◌&&◌, ltb, List, [], ◌∷◌, ◌++◌, length, get_or, drop, map, Some, None, Ok, Err, Option, Result, sym, refl, ap, ◌∙◌}
use Rattle.std.proofs.lemmas.Bool.{and_parts, and_from, cond-true, lt-ltb, ltb-true}
use Rattle.std.proofs.lemmas.List.{drop_more, drop_all}
use Rattle.std.proofs.lemmas.Str.Parse.{IsNumeralModel, numerals_by_value, tells_all_ascii_digits}
use Rattle.std.specs.Result.{result_ok}
use Rattle.std.specs.Str.{all_ascii_digits}
use Rattle.std.specs.Str.Parse.{ParsesUnsigned, digits_value, without_leading_plus}
use Rattle.recipe.specs.declared.grounds.Refusal.{Refusal}
use Rattle.recipe.specs.Offence.{first_offence, take_tests, check_tests}
use Rattle.following.specs.Told.{file_text, words_text, text_of}
use Rattle.following.specs.Words.{number_in, numbers_from, numbers_in}

own : IsNumeralModel (λ ds. all_ascii_digits ds ≡ true) (digits_value 10)
own = numerals_by_value _ tells_all_ascii_digits

-- what is parsed is the number that a word says
pub parsed : {E : Type 0} (bs : List ℕ) (r : Result ℕ E) → ParsesUnsigned 32 10 bs r → result_ok r ≡ number_in bs
parsed bs (Ok x) h =
    let ds = without_leading_plus bs in
    let test : (ltb 0 (length ds) && (all_ascii_digits ds && ltb (digits_value 10 ds) 4294967296)) ≡ true =
    and_from _ _ (lt-ltb _ _ h.0.0.0) (and_from _ _ (own.from ds h.0.0.1) (lt-ltb _ _ h.0.1)) in
    ap Some h.1 ∙ sym (cond-true _ (Some (digits_value 10 ds)) None test)
parsed bs (Err e) h = by _ refl
  where
    ds : List ℕ
    ds = without_leading_plus bs

    by : (b : Bool) → (ltb 0 (length (without_leading_plus bs)) && (all_ascii_digits (without_leading_plus bs) && ltb (digits_value 10 (without_leading_plus bs)) 4294967296)) ≡ b → None ≡ cond b (Some (digits_value 10 (without_leading_plus bs))) None
    by false k = refl
    by true k =
        let a = and_parts _ _ k in
        let b = and_parts _ _ a.1 in
        absurd (h ((ltb-true _ _ a.0, own.to _ b.0), ltb-true _ _ b.1))

-- one word more, and none
abbrev more : Option ℕ → List ℕ → List (List ℕ) → Result (List ℕ) ℕ
more (Some n) ns ws = numbers_from (ns ++ n ∷ []) ws
more None ns ws = Err (length ns)

module _ {A : Type 0} (bytes : A → List ℕ) where
  pub numbers_more : (ns : List ℕ) (ws : List A) (i : ℕ) (w : A) (o : Option ℕ) → i < length ws → get_or ws i w ≡ w → number_in (bytes w) ≡ o
      → numbers_from ns (map bytes (drop i ws)) ≡ more o ns (map bytes (drop (i + 1) ws))
  unfolding numbers_from
  numbers_more ns ws i w o lt item says = ap (λ rest. numbers_from ns (map bytes rest)) (drop_more ws i w lt ∙ ap (λ v. v ∷ drop (i + 1) ws) item) ∙ by (number_in (bytes w)) o says
    where
      by : (a b : Option ℕ) → a ≡ b → elim a as (λ _. Result (List ℕ) ℕ) [ Some n ↦ numbers_from (ns ++ n ∷ []) (map bytes (drop (i + 1) ws)) | None ↦ Err (length ns) ] ≡ more b ns (map bytes (drop (i + 1) ws))
      by (Some n) b e = ap (λ x. more x ns (map bytes (drop (i + 1) ws))) e
      by None b e = ap (λ x. more x ns (map bytes (drop (i + 1) ws))) e

  pub numbers_end : (ns : List ℕ) (ws : List A) (i : ℕ) → length ws ≤ i → numbers_from ns (map bytes (drop i ws)) ≡ Ok ns
  unfolding numbers_from
  numbers_end ns ws i far = ap (λ rest. numbers_from ns (map bytes rest)) (drop_all i ws far)

-- what is said where the words are a name and numbers, by the file's offence
pub told_of : {A : Type 0} (bytes : A → List ℕ) (file : List ℕ) (words : List A) (name : A) (others : List A) (ns : List ℕ) (o : Option Refusal) → words ≡ name ∷ others → Ok ns ≡ numbers_in (map bytes others)
    → o ≡ first_offence (take_tests file ++ check_tests file) → text_of file (map bytes words) ≡ file_text (bytes name) file ns o
told_of bytes file words name others ns o split says offence =
    ap (λ ws. text_of file (map bytes ws)) split ∙ ap (words_text (bytes name) file) (sym says) ∙ ap (file_text (bytes name) file ns) (sym offence)
