-- Laws of the two watches: a bad state leads to bad ones, an undefined cell to a bad one, and the wall is bad exactly if both its marks were met.
use Rattle.std.proofs.Common.{◌≡◌, ℕ, ◌+◌, ◌<◌, Bool, true, false, ◌&&◌, ◌||◌, cond, eqb, ltb, List, [], ◌∷◌, length, bit_or, fold, All, sym, refl, ap, ap₂, ◌∙◌, arith}
use Rattle.std.specs.Prelude.{slice_index, slice_index_or}
use Rattle.std.specs.List.{list_any}
use Rattle.std.proofs.Math.Bool.{or_assoc, or-false}
use Rattle.std.proofs.lemmas.List.Elements.{All-head, All-tail}
use Rattle.std.proofs.lemmas.Bool.{and_from, eqb-true, eq-eqb, lt-ltb, le-ltb, cond-true, cond-false}
use Rattle.model.specs.Program.{no_row}
use Rattle.model.specs.Watches.{asks_step, after_cell, table_watch, wall_step, wall_watch, StaysBad, after_marks, WatchLaws}

-- a step that is asked as it should be
asked : (states q mark : ℕ) → q < states → mark < 32 → asks_step states q mark ≡ true
asked states q mark low few = and_from (ltb q states) (ltb mark 32) (lt-ltb q states low) (lt-ltb mark 32 few)

table_stays : (rows : List (List ℕ)) → StaysBad (table_watch rows)
table_stays rows q mark low few bad =
    let n = length rows in
    let last : q ≡ n = eqb-true q n bad in
    let cell = after_cell n (slice_index (slice_index_or rows q no_row) mark) in
    eq-eqb ((table_watch rows).step q mark) n
    (cond-true (asks_step (n + 1) q mark) (cond (ltb q n) cell n) 0 (asked (n + 1) q mark low few) ∙ cond-false (ltb q n) cell n (le-ltb q n (omega arith)))

undefined_is_bad : (rows : List (List ℕ)) (q mark : ℕ) → q < length rows → mark < 32 → slice_index (slice_index_or rows q no_row) mark ≡ 255 → (table_watch rows).bad ((table_watch rows).step q mark) ≡ true
undefined_is_bad rows q mark low few undefined =
    let n = length rows in
    let cell = slice_index (slice_index_or rows q no_row) mark in
    eq-eqb ((table_watch rows).step q mark) n
    (cond-true (asks_step (n + 1) q mark) (cond (ltb q n) (after_cell n cell) n) 0 (asked (n + 1) q mark (omega arith) few)
    ∙ cond-true (ltb q n) (after_cell n cell) n (lt-ltb q n low)
    ∙ cond-true (eqb cell 255) n cell (eq-eqb cell 255 undefined))

-- the wall's state, by which of its marks were met
abbrev met : Bool → Bool → ℕ
met b c = cond b 1 0 + cond c 2 0

met_state : (b c : Bool) → met b c < 4
met_state true true = omega arith
met_state true false = omega arith
met_state false true = omega arith
met_state false false = omega arith

met_bad : (b c : Bool) → eqb (met b c) 3 ≡ (b && c)
met_bad true true = refl
met_bad true false = refl
met_bad false true = refl
met_bad false false = refl

-- a mark is met or not, and what was met before stays so
met_more : (b c d e : Bool) → bit_or (met b c) (met d e) ≡ met (b || d) (c || e)
met_more true true true true = refl
met_more true true true false = refl
met_more true true false true = refl
met_more true true false false = refl
met_more true false true true = refl
met_more true false true false = refl
met_more true false false true = refl
met_more true false false false = refl
met_more false true true true = refl
met_more false true true false = refl
met_more false true false true = refl
met_more false true false false = refl
met_more false false true true = refl
met_more false false true false = refl
met_more false false false true = refl
met_more false false false false = refl

wall_stays : (one two : ℕ) → StaysBad (wall_watch one two)
wall_stays one two q mark low few bad =
    let last : q ≡ 3 = eqb-true q 3 bad in
    eq-eqb ((wall_watch one two).step q mark) 3
    (cond-true (asks_step 4 q mark) (wall_step one two q mark) 0 (asked 4 q mark low few)
    ∙ ap (λ s. wall_step one two s mark) last
    ∙ met_more true true (eqb mark one) (eqb mark two))

module _ (one two : ℕ) where
  -- from any state, after some marks: what was met before, or is met among them
  wall_after : (b c : Bool) (marks : List ℕ) → All (λ m. m < 32) marks → fold (wall_watch one two).step (met b c) marks ≡ met (b || list_any (λ m. eqb m one) marks) (c || list_any (λ m. eqb m two) marks)
  wall_after b c [] few = ap₂ met (sym (or-false b)) (sym (or-false c))
  wall_after b c (m ∷ marks) few =
      let step = cond-true (asks_step 4 (met b c) m) (wall_step one two (met b c) m) 0 (asked 4 (met b c) m (met_state b c) (All-head (λ m. m < 32) m marks few)) ∙ met_more b c (eqb m one) (eqb m two) in
      ap (λ q. fold (wall_watch one two).step q marks) step
      ∙ wall_after (b || eqb m one) (c || eqb m two) marks (All-tail (λ m. m < 32) m marks few)
      ∙ ap₂ met (or_assoc b (eqb m one) (list_any (λ m. eqb m one) marks)) (or_assoc c (eqb m two) (list_any (λ m. eqb m two) marks))

  wall_meets : (marks : List ℕ) → All (λ m. m < 32) marks → (wall_watch one two).bad (after_marks (wall_watch one two) marks) ≡ (list_any (λ m. eqb m one) marks && list_any (λ m. eqb m two) marks)
  wall_meets marks few = ap (λ q. eqb q 3) (wall_after false false marks few) ∙ met_bad (list_any (λ m. eqb m one) marks) (list_any (λ m. eqb m two) marks)

pub watch_laws : WatchLaws
watch_laws = record { table_stays = table_stays; wall_stays = wall_stays; wall_meets = wall_meets; undefined = undefined_is_bad }
