-- Parts of a list of bytes: a record read out of a part of the file is the record at that place; what a list holds after bytes are put at a place of it.
use Rattle.std.proofs.Common.{◌≡◌, ℕ, ◌+◌, ◌-◌, ◌<◌, ◌≤◌, List, ◌++◌, length, take, drop, sym, ap, ◌∙◌, add-zero, arith, lit<, length-append, length-drop, get_or-drop, get_or-take}
use Rattle.std.proofs.lemmas.List.{drop-drop, append_assoc, take_at, drop_at, length-take-le}
use Rattle.recipe.specs.Bytes.{byte_at, record_of, record_at}

part : (bs : List ℕ) (at k : ℕ) → k < 8 → byte_at (take 8 (drop at bs)) k ≡ byte_at bs (at + k)
part bs at k h = rw (get_or-take, get_or-drop)

record_part_8 : (bs : List ℕ) (at : ℕ) → record_at (take 8 (drop at bs)) 0 ≡ record_at bs at
record_part_8 bs at = λ i.
    record_of ((part bs at 0 (lit< tt) ∙ ap (byte_at bs) (add-zero at)) i) (part bs at 1 (lit< tt) i) (part bs at 2 (lit< tt) i) (part bs at 3 (lit< tt) i)
    (part bs at 4 (lit< tt) i) (part bs at 5 (lit< tt) i) (part bs at 6 (lit< tt) i) (part bs at 7 (lit< tt) i)

-- the same of a slice from at to at + 8
pub record_part : (bs : List ℕ) (at : ℕ) → record_at (take (at + 8 - at) (drop at bs)) 0 ≡ record_at bs at
record_part bs at = let e : at + 8 - at ≡ 8 = omega arith in ap (λ w. record_at (take w (drop at bs)) 0) e ∙ record_part_8 bs at

-- xs with bytes put at a place, in its two parts up to the end of the bytes and past it
module _ {X : Type 0} (xs ys zs : List X) (at : ℕ) (fits : at + length ys ≤ length xs) (is : zs ≡ take at xs ++ (ys ++ drop (at + length ys) xs)) where
  front_length : length (take at xs ++ ys) ≡ at + length ys
  front_length = let h = length-take-le at xs (omega arith) in omega (arith, length-append (take at xs) ys)

  regrouped : zs ≡ (take at xs ++ ys) ++ drop (at + length ys) xs
  regrouped = is ∙ sym (append_assoc (take at xs) ys (drop (at + length ys) xs))

  pub put_front : take (at + length ys) zs ≡ take at xs ++ ys
  put_front = ap (take (at + length ys)) regrouped ∙ take_at (take at xs ++ ys) (drop (at + length ys) xs) (at + length ys) front_length

  pub put_past : drop (at + length ys) zs ≡ drop (at + length ys) xs
  put_past = ap (drop (at + length ys)) regrouped ∙ drop_at (take at xs ++ ys) (drop (at + length ys) xs) (at + length ys) front_length

-- ws at the front of xs, and after it bytes put where it ends
pub put_after : {X : Type 0} (xs ws ys out zs : List X) (at : ℕ) → out ≡ ws ++ drop (length ws) xs → length ws ≡ at → length ws ≤ length xs → at + length ys ≤ length xs → zs ≡ take at out ++ (ys ++ drop (at + length ys) out)
    → zs ≡ (ws ++ ys) ++ drop (length (ws ++ ys)) xs
put_after xs ws ys out zs at o a w f is =
    let n = length-append ws ys in
    let d = length-drop (length ws) xs in
    let l : length out ≡ length xs = ap length o ∙ length-append ws (drop (length ws) xs) ∙ omega arith in
    let ok : at + length ys ≤ length out = omega arith in
    let front : take at out ≡ ws = ap (take at) o ∙ take_at ws (drop (length ws) xs) at a in
    let past : drop at out ≡ drop at xs = ap (drop at) o ∙ drop_at ws (drop (length ws) xs) at a ∙ ap (λ k. drop k xs) a in
    let e : at + length ys ≡ length (ws ++ ys) = omega arith in
    is ∙ sym (append_assoc (take at out) ys (drop (at + length ys) out))
    ∙ (λ t. (front t ++ ys) ++ drop (at + length ys) out)
    ∙ ap (λ l. (ws ++ ys) ++ l) (sym (drop-drop (length ys) at out) ∙ ap (drop (length ys)) past ∙ drop-drop (length ys) at xs ∙ ap (λ k. drop k xs) e)
