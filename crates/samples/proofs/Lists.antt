-- Lists that loops make: all records at the end, the bodies of a file one after another, a length filled up, and one more change.
use Rattle.std.proofs.Common.{◌≡◌, ℕ, ◌+◌, ◌-◌, ◌<◌, ◌≤◌, ◌⊎◌, List, [], ◌∷◌, ◌++◌, length, get_or, take, set, replicate, sym, ap, ◌∙◌, append_assoc, arith, inl, inr}
use Rattle.std.specs.List.{flat_map, fold}
use Rattle.std.proofs.Math.Seq.{take-append-add}
use Rattle.std.proofs.lemmas.Bool.{cases_lt}
use Rattle.std.proofs.lemmas.List.{append-nil, take_all, take_more, take-append-le, take-replicate}
use Rattle.std.proofs.lemmas.List.Sums.{fold-append}
use Rattle.samples.specs.Building.{with_changes}

pub all_taken : {X : Type 0} (f : X → List ℕ) (front bs : List ℕ) (xs : List X) (i : ℕ) → length xs ≤ i → bs ≡ front ++ flat_map f (take i xs) → bs ≡ front ++ flat_map f xs
all_taken f front bs xs i h e = e ∙ ap (λ l. front ++ flat_map f l) (take_all i xs h)

-- five parts, each behind what was there before
pub assembled : (c m n e r f1 f2 f3 f4 f5 : List ℕ) → f1 ≡ c → f2 ≡ f1 ++ m → f3 ≡ f2 ++ n → f4 ≡ f3 ++ e → f5 ≡ f4 ++ r → f5 ≡ c ++ (m ++ (n ++ (e ++ r)))
assembled c m n e r f1 f2 f3 f4 f5 h1 h2 h3 h4 h5 = rw (h5, h4, h3, h2, h1) (simp append_assoc)

-- cut, or filled up with zeros
pub filled : (ws : List ℕ) (len : ℕ) → take len ws ++ replicate (len - length ws) 0 ≡ take len (ws ++ replicate len 0)
filled ws len = by_length (cases_lt len (length ws))
  where
    by_length : (len < length ws) ⊎ (length ws ≤ len) → take len ws ++ replicate (len - length ws) 0 ≡ take len (ws ++ replicate len 0)
    by_length (inl short) =
        let none : len - length ws ≡ 0 = omega arith in
        ap (λ k. take len ws ++ replicate k 0) none ∙ append-nil (take len ws) ∙ sym (take-append-le len ws (replicate len 0) (omega arith))
    by_length (inr long) =
        let more : length ws + (len - length ws) ≡ len = omega arith in
        ap (λ l. l ++ replicate (len - length ws) 0) (take_all len ws long)
        ∙ ap (λ l. ws ++ l) (sym (take-replicate (len - length ws) len 0 (omega arith)))
        ∙ sym (take-append-add ws (replicate len 0) (len - length ws))
        ∙ ap (λ k. take k (ws ++ replicate len 0)) more

-- with one more change a byte more is set
pub changes_more : (file : List ℕ) (cs : List (ℕ × ℕ)) (i : ℕ) → i < length cs → with_changes file (take (i + 1) cs) ≡ set (with_changes file (take i cs)) (get_or cs i (0, 0)).0 (get_or cs i (0, 0)).1
unfolding with_changes
changes_more file cs i h = ap (fold (λ bs c. set bs c.0 c.1) file) (take_more cs i (0, 0) h) ∙ fold-append (λ bs c. set bs c.0 c.1) file (take i cs) (get_or cs i (0, 0) ∷ [])
