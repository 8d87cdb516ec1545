-- A list cut into pieces that follow one another.
use Rattle.std.proofs.Common.{◌≡◌, ℕ, zero, suc, ◌+◌, ◌<◌, ◌≤◌, List, ◌∷◌, ◌++◌, map, length, get_or, drop, sym, ap, ◌∙◌, arith}
use Rattle.std.specs.List.{range_with_len, flat_map}
use Rattle.std.proofs.lemmas.List.{append_assoc, drop_more}
use Rattle.std.proofs.lemmas.List.FromFn.{length-map-range_with_len, get_or-map-range_with_len}
use Rattle.std.proofs.lemmas.List.Prefix.{at_from_reads}

-- where the piece at each place k below n is written for the k-th record, and the next piece follows it, all that lies between the first place and the last is written for the records
module _ {X A : Type 0} (enc : X → List A) (dec : ℕ → X) (place : ℕ → ℕ) (bs : List A) (n : ℕ)
    (piece : (k : ℕ) → k < n → drop (place k) bs ≡ enc (dec k) ++ drop (place (k + 1)) bs) where
  chunks_from : (m a : ℕ) → a + m ≡ n → drop (place a) bs ≡ flat_map enc (map dec (range_with_len a m)) ++ drop (place n) bs
  chunks_from zero a e = let h : a ≡ n = omega arith in ap (λ k. drop (place k) bs) h
  chunks_from (suc m) a e =
      piece a (omega arith)
      ∙ ap (λ rest. enc (dec a) ++ rest) (chunks_from m (a + 1) (omega arith))
      ∙ sym (append_assoc (enc (dec a)) (flat_map enc (map dec (range_with_len (a + 1) m))) (drop (place n) bs))

  pub chunks : drop (place 0) bs ≡ flat_map enc (map dec (range_with_len 0 n)) ++ drop (place n) bs
  chunks = chunks_from n 0 (omega arith)

-- n elements from a place on, read one by one
pub drop_read : {A : Type 0} (d : A) (bs : List A) (at n : ℕ) → at + n ≤ length bs → drop at bs ≡ map (λ k. get_or bs (at + k) d) (range_with_len 0 n) ++ drop (at + n) bs
drop_read d bs at n le =
    let f = λ (k : ℕ). get_or bs (at + k) d in
    let l = length-map-range_with_len f 0 n in
    at_from_reads d bs (map f (range_with_len 0 n)) at (omega arith) (λ i lt. sym (get_or-map-range_with_len f 0 n i i d (omega arith) (omega arith)))
    ∙ ap (λ k. map f (range_with_len 0 n) ++ drop (at + k) bs) l

-- two, four and eight elements
pub drop_two : {A : Type 0} (d : A) (bs : List A) (i : ℕ) → i + 2 ≤ length bs → drop i bs ≡ get_or bs i d ∷ get_or bs (i + 1) d ∷ drop (i + 2) bs
drop_two d bs i le =
    let e : i + 1 + 1 ≡ i + 2 = omega arith in
    drop_more bs i d (omega arith) ∙ ap (λ rest. get_or bs i d ∷ rest) (drop_more bs (i + 1) d (omega arith) ∙ ap (λ j. get_or bs (i + 1) d ∷ drop j bs) e)

pub drop_four : {A : Type 0} (d : A) (bs : List A) (i : ℕ) → i + 4 ≤ length bs → drop i bs ≡ get_or bs i d ∷ get_or bs (i + 1) d ∷ get_or bs (i + 2) d ∷ get_or bs (i + 3) d ∷ drop (i + 4) bs
drop_four d bs i le =
    let e : i + 2 + 1 ≡ i + 3 = omega arith in
    let f : i + 2 + 2 ≡ i + 4 = omega arith in
    drop_two d bs i (omega arith)
    ∙ ap (λ rest. get_or bs i d ∷ get_or bs (i + 1) d ∷ rest) (drop_two d bs (i + 2) (omega arith) ∙ (λ t. get_or bs (i + 2) d ∷ get_or bs (e t) d ∷ drop (f t) bs))

pub drop_eight : {A : Type 0} (d : A) (bs : List A) (i : ℕ) → i + 8 ≤ length bs
    → drop i bs ≡ get_or bs i d ∷ get_or bs (i + 1) d ∷ get_or bs (i + 2) d ∷ get_or bs (i + 3) d ∷ get_or bs (i + 4) d ∷ get_or bs (i + 5) d ∷ get_or bs (i + 6) d ∷ get_or bs (i + 7) d ∷ drop (i + 8) bs
drop_eight d bs i le =
    let e : i + 4 + 1 ≡ i + 5 = omega arith in
    let f : i + 4 + 2 ≡ i + 6 = omega arith in
    let g : i + 4 + 3 ≡ i + 7 = omega arith in
    let h : i + 4 + 4 ≡ i + 8 = omega arith in
    drop_four d bs i (omega arith)
    ∙ ap (λ rest. get_or bs i d ∷ get_or bs (i + 1) d ∷ get_or bs (i + 2) d ∷ get_or bs (i + 3) d ∷ rest)
    (drop_four d bs (i + 4) (omega arith) ∙ (λ t. get_or bs (i + 4) d ∷ get_or bs (e t) d ∷ get_or bs (f t) d ∷ get_or bs (g t) d ∷ drop (h t) bs))
