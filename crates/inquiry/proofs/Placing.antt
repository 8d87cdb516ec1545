-- Where a new edge goes, and the table with it.
use Rattle.std.proofs.Common.{◌≡◌, ℕ, suc, ◌+◌, ◌-◌, ◌<◌, ◌≤◌, true, false, List, ◌∷◌, ◌++◌, cond, length, get_or, take, drop, set, Some, Option, sym, ap, ◌∙◌, arith}
use borrow.Rule.Slice.PartMut.{put_mid, post_of}
use Rattle.std.proofs.lemmas.List.{append_assoc, drop_more, drop_all, drop-drop, drop-take, length-drop, length-take-le, set_at, take-take}
use Rattle.std.proofs.lemmas.Bool.{cond-true, cond-false}
use Rattle.model.specs.declared.Edge.{Edge}
use Rattle.model.specs.Links.{place_after, rising_place}
use Rattle.model.specs.Program.{Program, no_edge, rises, counts}

-- a look for the rising place of an edge, at a place of the list: the rising place among the edges that are left, after the last one that counted, is that among all
module _ (p : Program) (es : List Edge) (e : Edge) (i : ℕ) (last : Option Edge) (sofar : i + place_after p last (drop i es) e ≡ rising_place p es e) where
  -- behind all
  pub place_behind : i ≡ length es → length es ≡ rising_place p es e
  unfolding place_after
  place_behind all = let none = ap (λ ds. place_after p last ds e) (drop_all i es (omega arith)) in omega arith

  module _ (lt : i < length es) where
    -- before an edge that counts and rises above it
    pub place_here : counts p last (get_or es i no_edge) ≡ true → rises e (get_or es i no_edge) ≡ true → i ≡ rising_place p es e
    unfolding place_after
    place_here counting over =
        let d = get_or es i no_edge in
        let k : ℕ = place_after p (Some d) (drop (i + 1) es) e in
        let here = ap (λ ds. place_after p last ds e) (drop_more es i no_edge lt)
        ∙ cond-true (counts p last d) (cond (rises e d) 0 (suc k)) (suc (place_after p last (drop (i + 1) es) e)) counting ∙ cond-true (rises e d) 0 (suc k) over in
        omega arith

    -- past an edge that counts and does not
    pub place_past : counts p last (get_or es i no_edge) ≡ true → rises e (get_or es i no_edge) ≡ false → i + 1 + place_after p (Some (get_or es i no_edge)) (drop (i + 1) es) e ≡ rising_place p es e
    unfolding place_after
    place_past counting under =
        let d = get_or es i no_edge in
        let k : ℕ = place_after p (Some d) (drop (i + 1) es) e in
        let here = ap (λ ds. place_after p last ds e) (drop_more es i no_edge lt)
        ∙ cond-true (counts p last d) (cond (rises e d) 0 (suc k)) (suc (place_after p last (drop (i + 1) es) e)) counting ∙ cond-false (rises e d) 0 (suc k) under in
        omega arith

    -- and past one that does not count
    pub place_over : counts p last (get_or es i no_edge) ≡ false → i + 1 + place_after p last (drop (i + 1) es) e ≡ rising_place p es e
    unfolding place_after
    place_over void =
        let d = get_or es i no_edge in
        let here = ap (λ ds. place_after p last ds e) (drop_more es i no_edge lt)
        ∙ cond-false (counts p last d) (cond (rises e d) 0 (suc (place_after p (Some d) (drop (i + 1) es) e))) (suc (place_after p last (drop (i + 1) es) e)) void in
        omega arith

-- the edges from a place on up to one past those in use, their last put in front of the others, then overwritten by the new one: the edges in use with the new one at that place
module _ (es : List Edge) (used place : ℕ) (within : place ≤ used) (room : used < length es) where
  abbrev moved : List Edge
  moved = take (used + 1 - place) (drop place es)

  moved_is : drop (length moved - 1) moved ++ take (length moved - 1) moved ≡ get_or moved (used - place) no_edge ∷ drop place (take used es)
  moved_is =
      let long : length moved ≡ used + 1 - place = length-take-le (used + 1 - place) (drop place es) (omega (arith, length-drop place es)) in
      let last : length moved - 1 ≡ used - place = omega arith in
      let split : place + (used - place) ≡ used = omega arith in
      ap (λ k. drop k moved ++ take k moved) last
      ∙ ap (λ ds. ds ++ take (used - place) moved) (drop_more moved (used - place) no_edge (omega arith) ∙ ap (λ ds. get_or moved (used - place) no_edge ∷ ds) (drop_all (used - place + 1) moved (omega arith)))
      ∙ ap (λ ds. get_or moved (used - place) no_edge ∷ ds) (take-take (used - place) (used + 1 - place) (drop place es) (omega arith) ∙ sym (drop-take place (used - place) es) ∙ ap (λ n. drop place (take n es)) split)

  pub put_in : (e : Edge) (rs : List Edge) → rs ≡ drop (length moved - 1) moved ++ take (length moved - 1) moved → set (put_mid place (used + 1 - place) es rs) place e ≡ take place (take used es) ++ e ∷ drop place (take used es) ++ drop (used + 1) es
  put_in e rs turned =
      let d = get_or moved (used - place) no_edge in
      let behind = drop place (take used es) in
      let past : place + (used + 1 - place) ≡ used + 1 = omega arith in
      ap (λ ds. set (put_mid place (used + 1 - place) es ds) place e) (turned ∙ moved_is)
      ∙ set_at (take place es) d (behind ++ post_of place (used + 1 - place) es) e place (length-take-le place es (omega arith))
      ∙ sym (append_assoc (take place es) (e ∷ behind) (post_of place (used + 1 - place) es))
      ∙ ap (λ ds. ds ++ e ∷ behind ++ post_of place (used + 1 - place) es) (sym (take-take place used es within))
      ∙ ap (λ ds. take place (take used es) ++ e ∷ behind ++ ds) (drop-drop (used + 1 - place) place es ∙ ap (λ n. drop n es) past)
