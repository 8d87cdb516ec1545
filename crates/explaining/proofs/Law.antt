-- Which refusals of a file are explained: exactly those with which one of its tests fails.
use Rattle.std.proofs.Common.{◌≡◌, ℕ, zero, suc, ◌+◌, ◌*◌, ◌<◌, Bool, true, false, cond, not, ◌&&◌, ◌||◌, eqb, ltb, leb, ◌⊎◌, List, [], ◌∷◌, ◌++◌, length, Some, None, Option, is_some, Decides, sym, refl, ap, ◌∙◌, subst, inl, inr, zero-add, lit<, arith}
use Rattle.std.specs.List.{Contains}
use Rattle.std.proofs.lemmas.Bool.{false≢true, cond-true, cond-false, cases_eq, cases_Bool, eq-eqb, le-leb, lt-ltb, ne_eqb, and_from, and_parts, and_right, ltb-true}
use Rattle.std.proofs.lemmas.List.Elements.{Contains-append_cases, Contains-append_left, Contains-append_right}
use Rattle.std.proofs.lemmas.List.FromFn.{length-map-range_with_len, get_or-map-range_with_len}
use Rattle.model.specs.declared.Node.{Node}
use Rattle.model.specs.Program.{home, offset, rights_of, node_at, is_return, rises_after}
use Rattle.recipe.specs.declared.grounds.Refusal.{Refusal}
use Rattle.recipe.specs.declared.grounds.Refusal.TheVariants.{Misplaced, Miscounted, BadMethod, BadNode, BadEdge, BadRow, TooMany, OtherCounts, UnfitTable, NotAnEdge, EdgeHeld, EdgesFull, InquiryFull, NotUnsafe, LongTrace, NotAStep, StackFull, ShortOutput}
use Rattle.recipe.specs.Bytes.{place_in, count_in, body_in, nodes_at, method_in, node_in, edge_in, cell_in, program_of}
use Rattle.recipe.specs.Offence.{first_offence, each, between, ends, record_fits, take_tests, check_tests, method_test, node_test, entry_test, edge_test, edge_before, row_test, cell_test}
use Rattle.recipe.proofs.Decoding.{told_at}
use Rattle.recipe.proofs.Firsts.{passed, none_of_both, second_of_two, each_none, each_passes}
use Rattle.recipe.proofs.Layers.{all_below_from, all_below_at}
use Rattle.recipe.proofs.Scans.{nodes_length}
use Rattle.explaining.specs.declared.explanation.Explanation.{Explanation}
use Rattle.explaining.specs.declared.explanation.Record.{Record}
use Rattle.explaining.specs.declared.explanation.Record.TheVariants.{File}
use Rattle.explaining.specs.declared.explanation.Rule.{Rule}
use Rattle.explaining.specs.declared.explanation.Rule.TheVariants.{ShortFile, WrongLength, WrongPlace, WrongCount, WrongCell}
use Rattle.explaining.specs.Rules.{fields_in, form_rules, call_rules, length_rules, place_wanted, place_rules, fewest, most, count_rules, method_rules, node_rules, edge_rules, row_rules, said, entry_record, explained, Fails}
use Rattle.explaining.proofs.Kept.{unkept, unkept_past, kept_4, kept_5, one_broken, both_tests}
use Rattle.explaining.proofs.Forms.{keeps_form, formed, is_node, fits_calls, calls_fit}

-- the first test that fails is one that does
cons_cases : {X : Type 0} (x : X) (xs : List X) (y : X) → Contains (x ∷ xs) y → (x ≡ y) ⊎ Contains xs y
cons_cases x xs y (zero, lt, e) = inl e
cons_cases x xs y (suc k, lt, e) = inr (k, omega arith, e)

there : {X : Type 0} (x : X) (xs : List X) (y : X) → Contains xs y → Contains (x ∷ xs) y
there x xs y (k, lt, e) = (suc k, omega arith, e)

pub first_fails : {R : Type 0} (ts : List (Bool × R)) (r : R) → first_offence ts ≡ Some r → Contains ts (false, r)
unfolding first_offence
first_fails [] r e = cc
first_fails ((true, s) ∷ ts) r e = there (true, s) ts (false, r) (first_fails ts r e)
first_fails ((false, s) ∷ ts) r e = let same : s ≡ r = cc in (0, omega arith, λ i. (false, same i))

-- a test of one for each number below n
in_each : {R : Type 0} (n : ℕ) (f : ℕ → Bool) (g : ℕ → R) (k : ℕ) → k < n → f k ≡ false → Contains (each n f g) (false, g k)
in_each n f g k lt e =
    let l : length (each n f g) ≡ n = length-map-range_with_len (λ k. (f k, g k)) 0 n in
    (k, omega arith, get_or-map-range_with_len (λ k. (f k, g k)) 0 n k k (false, g k) lt (zero-add k) ∙ (λ i. (e i, g k)))

pub each_in : {R : Type 0} (n : ℕ) (f : ℕ → Bool) (g : ℕ → R) (r : R) → Contains (each n f g) (false, r) → (k : ℕ) × (k < n) × (f k ≡ false) × (g k ≡ r)
each_in n f g r (k, lt, e) =
    let l : length (each n f g) ≡ n = length-map-range_with_len (λ k. (f k, g k)) 0 n in
    let few : k < n = omega arith in
    let is = sym (get_or-map-range_with_len (λ k. (f k, g k)) 0 n k k (false, r) few (zero-add k)) ∙ e in
    (k, few, ap (λ t. t.0) is, ap (λ t. t.1) is)

-- where some rule is broken
some_unless : {X : Type 0} (o : Option X) → (o ≡ None → ⊥) → is_some o ≡ true
some_unless None h = absurd (h refl)
some_unless (Some x) h = refl

none_not_some : {X : Type 0} (o : Option X) → is_some o ≡ true → o ≡ None → ⊥
none_not_some o h e = false≢true (sym (ap is_some e) ∙ h)

-- what is said is said where a rule is broken
said_some : (what : Record) (at : ℕ) (o : Option Rule) → is_some (said what at o) ≡ is_some o
said_some what at None = refl
said_some what at (Some r) = refl

explains_said : (what : Record) (at : ℕ) (o : Option Rule) → (o ≡ None → ⊥) → is_some (said what at o) ≡ true
explains_said what at o h = said_some what at o ∙ some_unless o h

-- what the rules of a record tell where none is broken, and that none is where its tests pass
module _ (bs : List ℕ) where
  method_kept : (k : ℕ) → first_offence (method_rules bs k) ≡ None → (method_test bs k ≡ true) × (entry_test bs k ≡ true)
  unfolding method_rules method_test
  method_kept k h =
      let a = passed _ _ _ h in
      let b = passed _ _ _ a.1 in
      let c = passed _ _ _ b.1 in
      let d = passed _ _ _ c.1 in
      (and_from _ _ a.0 (and_from _ _ b.0 c.0), d.0)

  method_keeps : (k : ℕ) → method_test bs k ≡ true → entry_test bs k ≡ true → first_offence (method_rules bs k) ≡ None
  unfolding method_rules method_test
  method_keeps k h e =
      let sum = offset (program_of bs).methods (suc k) in
      let last = ltb (suc k) (count_in bs 0) || eqb sum (count_in bs 1) in
      let a = and_parts (leb 1 (method_in bs k).nodes) (leb sum (count_in bs 1) && last) h in
      let b = and_parts (leb sum (count_in bs 1)) last a.1 in
      kept_4 _ _ _ _ _ _ _ _ a.0 b.0 b.1 e

  node_kept : (n : ℕ) → first_offence (node_rules bs n) ≡ None → node_test bs n ≡ true
  unfolding node_rules node_test
  node_kept n h =
      let both = none_of_both (form_rules (fields_in bs n)) (call_rules (count_in bs 0) (rights_of (program_of bs) n) (fields_in bs n)) h in
      let m = formed (fields_in bs n) both.0 in
      ap (record_fits (count_in bs 0) (rights_of (program_of bs) n)) (is_node (fields_in bs n) m)
      ∙ calls_fit (fields_in bs n) (count_in bs 0) (rights_of (program_of bs) n) m.kind m.tells both.1

  node_keeps : (n : ℕ) → node_test bs n ≡ true → first_offence (node_rules bs n) ≡ None
  unfolding node_rules node_test
  node_keeps n h = by (node_in bs n) refl h
    where
      by : (o : Option Node) → node_in bs n ≡ o → record_fits (count_in bs 0) (rights_of (program_of bs) n) o ≡ true → first_offence (node_rules bs n) ≡ None
      by None e h = absurd (false≢true h)
      by (Some m) e h =
          let t = told_at bs (nodes_at bs + 8 * n) m e in
          second_of_two (form_rules (fields_in bs n)) _ (keeps_form (fields_in bs n) m.kind t.kind_is t.few)
          ∙ fits_calls (fields_in bs n) (count_in bs 0) (rights_of (program_of bs) n) m.kind t.kind_is h

  edge_kept : (i : ℕ) → first_offence (edge_rules bs i) ≡ None → edge_test bs i ≡ true
  unfolding edge_rules edge_test
  edge_kept i h =
      let l = nodes_length bs in
      let a = passed _ _ _ h in
      let b = passed _ _ _ a.1 in
      let c = passed _ _ _ b.1 in
      let d = passed _ _ _ c.1 in
      let e = passed _ _ _ d.1 in
      and_from _ _ (and_from _ _ (ap (ltb (edge_in bs i).from) l ∙ a.0) (and_from _ _ (ap (ltb (edge_in bs i).to) l ∙ b.0) (and_from _ _ c.0 d.0))) e.0

  edge_keeps : (i : ℕ) → edge_test bs i ≡ true → first_offence (edge_rules bs i) ≡ None
  unfolding edge_rules edge_test
  edge_keeps i h =
      let p = program_of bs in
      let e = edge_in bs i in
      let l = nodes_length bs in
      let on = not (is_return (node_at p e.from).kind) in
      let same = eqb (home p.methods e.from) (home p.methods e.to) in
      let from = ltb e.from (length p.nodes) in
      let to = ltb e.to (length p.nodes) in
      let a = and_parts (from && (to && (on && same))) (rises_after (edge_before bs i) e) h in
      let b = and_parts from (to && (on && same)) a.0 in
      let c = and_parts to (on && same) b.1 in
      let d = and_parts on same c.1 in
      kept_5 _ _ _ _ _ _ _ _ _ _ (sym (ap (ltb e.from) l) ∙ b.0) (sym (ap (ltb e.to) l) ∙ c.0) d.0 d.1 a.1

  abbrev cell_rule : ℕ → ℕ → Rule
  cell_rule r c = WrongCell c (cell_in bs r c)

  row_kept : (r : ℕ) → first_offence (row_rules bs r) ≡ None → row_test bs r ≡ true
  unfolding row_rules row_test
  row_kept r h = all_below_from 32 (cell_test bs r) (each_passes (cell_test bs r) (cell_rule r) 32 h)

  row_keeps : (r : ℕ) → row_test bs r ≡ true → first_offence (row_rules bs r) ≡ None
  unfolding row_rules row_test
  row_keeps r h = each_none (cell_test bs r) (cell_rule r) 32 (all_below_at 32 (cell_test bs r) h)

  -- a record of which a test fails breaks a rule, and one that breaks a rule fails a test
  in_file : (many k : ℕ) (o : Option Explanation) → k < many → cond (ltb k many) o None ≡ o
  in_file many k o lt = cond-true (ltb k many) o None (lt-ltb k many lt)

  below : (many k : ℕ) (o : Option Explanation) → is_some (cond (ltb k many) o None) ≡ true → (k < many) × (is_some o ≡ true)
  below many k o h = elim (cases_Bool (ltb k many)) [
    | inl e ↦ (ltb-true k many e, ap is_some (sym (cond-true (ltb k many) o None e)) ∙ h)
    | inr e ↦ absurd (none_not_some _ h (cond-false (ltb k many) o None e))
  ]

  abbrev Explains : Refusal → Type 0
  Explains r = is_some (explained bs r) ≡ true

  explains : (what : Record) (at many k : ℕ) (o : Option Rule) → k < many → (o ≡ None → ⊥) → is_some (cond (ltb k many) (said what at o) None) ≡ true
  explains what at many k o lt h = ap is_some (in_file many k (said what at o) lt) ∙ explains_said what at o h

  method_fails : (k : ℕ) → k < count_in bs 0 → method_test bs k ≡ false → Explains (BadMethod k)
  unfolding explained
  method_fails k lt e = explains _ _ _ k _ lt (λ none. false≢true (sym e ∙ (method_kept k none).0))

  node_fails : (n : ℕ) → n < count_in bs 1 → node_test bs n ≡ false → Explains (BadNode n)
  unfolding explained
  node_fails n lt e = explains _ _ _ n _ lt (λ none. false≢true (sym e ∙ node_kept n none))

  entry_fails : (k : ℕ) → k < count_in bs 0 → entry_test bs k ≡ false → Explains (BadMethod k)
  unfolding explained
  entry_fails k lt e = explains _ _ _ k _ lt (λ none. false≢true (sym e ∙ (method_kept k none).1))

  edge_fails : (i : ℕ) → i < count_in bs 2 → edge_test bs i ≡ false → Explains (BadEdge i)
  unfolding explained
  edge_fails i lt e = explains _ _ _ i _ lt (λ none. false≢true (sym e ∙ edge_kept i none))

  row_fails : (r : ℕ) → r < count_in bs 3 → row_test bs r ≡ false → Explains (BadRow r)
  unfolding explained
  row_fails r lt e = explains _ _ _ r _ lt (λ none. false≢true (sym e ∙ row_kept r none))

  -- each of these tests that fails is explained
  record Shown (ts : List (Bool × Refusal)) : Type 0 where
    pub by : (r : Refusal) → Contains ts (false, r) → Explains r

  shown_none : Shown []
  shown_none = record { by = λ r h. absurd (omega (arith, h.1)) }

  shown_more : (t : Bool) (s : Refusal) (ts : List (Bool × Refusal)) → (t ≡ false → Explains s) → Shown ts → Shown ((t, s) ∷ ts)
  shown_more t s ts one rest = record {
    by = λ r h. elim (cons_cases (t, s) ts (false, r) h) [
      | inl e ↦ subst Explains (ap (λ t. t.1) e) (one (ap (λ t. t.0) e))
      | inr h ↦ rest.by r h
    ];
  }

  shown_both : (xs ys : List (Bool × Refusal)) → Shown xs → Shown ys → Shown (xs ++ ys)
  shown_both xs ys a b = record { by = λ r h. elim (Contains-append_cases xs ys (false, r) h) [ inl h ↦ a.by r h | inr h ↦ b.by r h ] }

  shown_each : (n : ℕ) (f : ℕ → Bool) (g : ℕ → Refusal) → ((k : ℕ) → k < n → f k ≡ false → Explains (g k)) → Shown (each n f g)
  shown_each n f g one = record { by = λ r h. let w = each_in n f g r h in subst Explains w.3 (one w.0 w.1 w.2) }

  place_fails : (entry : ℕ) → entry < 4 → eqb (place_in bs entry) (place_wanted bs entry) ≡ false → Explains (Misplaced entry)
  unfolding explained place_rules
  place_fails entry lt e =
      let other : eqb entry 4 ≡ false = ne_eqb entry 4 (omega arith) in
      ap is_some (cond-false (eqb entry 4) (said (File (length bs)) (length bs) (first_offence (length_rules bs))) _ other)
      ∙ explains (entry_record bs entry) (4 * entry) 4 entry _ lt (unkept _ (WrongPlace (place_wanted bs entry)) [] e)

  count_fails : (entry : ℕ) → entry < 4 → between (fewest entry) (most entry) (count_in bs entry) ≡ false → Explains (Miscounted entry)
  unfolding explained count_rules
  count_fails entry lt e = explains (entry_record bs entry) (4 * entry) 4 entry _ lt (unkept _ (WrongCount (fewest entry) (most entry)) [] e)

  length_fails : (first_offence (length_rules bs) ≡ None → ⊥) → Explains (Misplaced 4)
  unfolding explained
  length_fails h = explains_said (File (length bs)) (length bs) _ h

  short_fails : leb 16 (length bs) ≡ false → first_offence (length_rules bs) ≡ None → ⊥
  unfolding length_rules
  short_fails e = unkept _ _ _ e

  end_fails : eqb (length bs) (ends 32 (body_in bs 3)) ≡ false → first_offence (length_rules bs) ≡ None → ⊥
  unfolding length_rules
  end_fails e = unkept_past _ _ _ (unkept _ _ [] e)

  shown_take : Shown (take_tests bs)
  shown_take =
      shown_more _ _ _ (λ e. length_fails (short_fails e))
      (shown_more _ _ _ (λ e. count_fails 0 (lit< tt) e) (shown_more _ _ _ (λ e. count_fails 1 (lit< tt) e)
      (shown_more _ _ _ (λ e. count_fails 2 (lit< tt) (and_right _ _ e)) (shown_more _ _ _ (λ e. count_fails 3 (lit< tt) (and_right _ _ e))
      (shown_more _ _ _ (λ e. place_fails 0 (lit< tt) e) (shown_more _ _ _ (λ e. place_fails 1 (lit< tt) e)
      (shown_more _ _ _ (λ e. place_fails 2 (lit< tt) e) (shown_more _ _ _ (λ e. place_fails 3 (lit< tt) e)
      (shown_more _ _ _ (λ e. length_fails (end_fails e)) shown_none)))))))))

  shown_check : Shown (check_tests bs)
  shown_check =
      shown_both _ _ (shown_each (count_in bs 0) (method_test bs) BadMethod method_fails)
      (shown_both _ _ (shown_each (count_in bs 1) (node_test bs) BadNode node_fails)
      (shown_both _ _ (shown_each (count_in bs 0) (entry_test bs) BadMethod entry_fails)
      (shown_both _ _ (shown_each (count_in bs 2) (edge_test bs) BadEdge edge_fails)
      (shown_each (count_in bs 3) (row_test bs) BadRow row_fails))))

  pub fails_explained : (r : Refusal) → Fails bs r → Explains r
  unfolding Fails
  fails_explained r h = (shown_both (take_tests bs) (check_tests bs) shown_take shown_check).by r h

  -- a test of take or of check that fails is one of the file's
  in_take : (r : Refusal) → Contains (take_tests bs) (false, r) → Fails bs r
  unfolding Fails
  in_take r h = Contains-append_left (take_tests bs) (check_tests bs) (false, r) h

  in_check : (r : Refusal) → Contains (check_tests bs) (false, r) → Fails bs r
  unfolding Fails
  in_check r h = Contains-append_right (take_tests bs) (check_tests bs) (false, r) h

  abbrev methods : List (Bool × Refusal)
  methods = each (count_in bs 0) (method_test bs) BadMethod

  abbrev nodes : List (Bool × Refusal)
  nodes = each (count_in bs 1) (node_test bs) BadNode

  abbrev entries : List (Bool × Refusal)
  entries = each (count_in bs 0) (entry_test bs) BadMethod

  abbrev edges : List (Bool × Refusal)
  edges = each (count_in bs 2) (edge_test bs) BadEdge

  abbrev rows : List (Bool × Refusal)
  rows = each (count_in bs 3) (row_test bs) BadRow

  -- a rule that is broken is one of those of a record of the file
  of_record : (what : Record) (at many k : ℕ) (o : Option Rule) → is_some (cond (ltb k many) (said what at o) None) ≡ true → (k < many) × (o ≡ None → ⊥)
  of_record what at many k o h =
      let b = below many k (said what at o) h in
      (b.0, none_not_some o (sym (said_some what at o) ∙ b.1))

  unless : (t : Bool) (P : Type 0) → (t ≡ false → P) → (t ≡ true → P) → P
  unless t P fails holds = elim (cases_Bool t) [ inl e ↦ holds e | inr e ↦ fails e ]

  method_told : (k : ℕ) → Explains (BadMethod k) → Fails bs (BadMethod k)
  unfolding explained
  method_told k h =
      let b = of_record _ _ (count_in bs 0) k _ h in
      unless (method_test bs k) (Fails bs (BadMethod k))
      (λ e. in_check (BadMethod k) (Contains-append_left methods _ _ (in_each (count_in bs 0) (method_test bs) BadMethod k b.0 e)))
      (λ y. unless (entry_test bs k) (Fails bs (BadMethod k))
      (λ e. in_check (BadMethod k) (Contains-append_right methods _ _ (Contains-append_right nodes _ _ (Contains-append_left entries _ _ (in_each (count_in bs 0) (entry_test bs) BadMethod k b.0 e)))))
      (λ z. absurd (b.1 (method_keeps k y z))))

  node_told : (n : ℕ) → Explains (BadNode n) → Fails bs (BadNode n)
  unfolding explained
  node_told n h =
      let b = of_record _ _ (count_in bs 1) n _ h in
      unless (node_test bs n) (Fails bs (BadNode n))
      (λ e. in_check (BadNode n) (Contains-append_right methods _ _ (Contains-append_left nodes _ _ (in_each (count_in bs 1) (node_test bs) BadNode n b.0 e))))
      (λ y. absurd (b.1 (node_keeps n y)))

  edge_told : (i : ℕ) → Explains (BadEdge i) → Fails bs (BadEdge i)
  unfolding explained
  edge_told i h =
      let b = of_record _ _ (count_in bs 2) i _ h in
      unless (edge_test bs i) (Fails bs (BadEdge i))
      (λ e. in_check (BadEdge i) (Contains-append_right methods _ _ (Contains-append_right nodes _ _ (Contains-append_right entries _ _ (Contains-append_left edges _ _ (in_each (count_in bs 2) (edge_test bs) BadEdge i b.0 e))))))
      (λ y. absurd (b.1 (edge_keeps i y)))

  row_told : (r : ℕ) → Explains (BadRow r) → Fails bs (BadRow r)
  unfolding explained
  row_told r h =
      let b = of_record _ _ (count_in bs 3) r _ h in
      unless (row_test bs r) (Fails bs (BadRow r))
      (λ e. in_check (BadRow r) (Contains-append_right methods _ _ (Contains-append_right nodes _ _ (Contains-append_right entries _ _ (Contains-append_right edges _ _ (in_each (count_in bs 3) (row_test bs) BadRow r b.0 e))))))
      (λ y. absurd (b.1 (row_keeps r y)))

  -- a rule of the table of contents or of the length that is broken is one of take's tests
  length_told : (first_offence (length_rules bs) ≡ None → ⊥) → Fails bs (Misplaced 4)
  unfolding length_rules
  length_told h = elim (both_tests (leb 16 (length bs)) (eqb (length bs) (ends 32 (body_in bs 3))) ShortFile (WrongLength (ends 32 (body_in bs 3))) h) [
    | inl e ↦ in_take (Misplaced 4) (0, omega arith, λ i. (e i, Misplaced 4))
    | inr e ↦ in_take (Misplaced 4) (9, omega arith, λ i. (e i, Misplaced 4))
  ]

  place_told : (entry : ℕ) → entry < 4 → eqb (place_in bs entry) (place_wanted bs entry) ≡ false → Fails bs (Misplaced entry)
  place_told zero lt e = in_take (Misplaced 0) (5, omega arith, λ i. (e i, Misplaced 0))
  place_told (suc zero) lt e = in_take (Misplaced 1) (6, omega arith, λ i. (e i, Misplaced 1))
  place_told (suc (suc zero)) lt e = in_take (Misplaced 2) (7, omega arith, λ i. (e i, Misplaced 2))
  place_told (suc (suc (suc zero))) lt e = in_take (Misplaced 3) (8, omega arith, λ i. (e i, Misplaced 3))
  place_told (suc (suc (suc (suc k)))) lt e = absurd (omega arith)

  -- that a count is 0 or more is no test of its own
  from_0 : (n high : ℕ) → between 0 high n ≡ false → leb n high ≡ false
  from_0 n high e = le_ltb_0 (leb n high) e
    where
      le_ltb_0 : (b : Bool) → (leb 0 n && b) ≡ false → b ≡ false
      le_ltb_0 true e = absurd (false≢true (sym e ∙ and_from (leb 0 n) true (le-leb 0 n (omega arith)) refl))
      le_ltb_0 false e = refl

  count_told : (entry : ℕ) → entry < 4 → between (fewest entry) (most entry) (count_in bs entry) ≡ false → Fails bs (Miscounted entry)
  count_told zero lt e = in_take (Miscounted 0) (1, omega arith, λ i. (e i, Miscounted 0))
  count_told (suc zero) lt e = in_take (Miscounted 1) (2, omega arith, λ i. (e i, Miscounted 1))
  count_told (suc (suc zero)) lt e = let h = from_0 (count_in bs 2) 4096 e in in_take (Miscounted 2) (3, omega arith, λ i. (h i, Miscounted 2))
  count_told (suc (suc (suc zero))) lt e = let h = from_0 (count_in bs 3) 16 e in in_take (Miscounted 3) (4, omega arith, λ i. (h i, Miscounted 3))
  count_told (suc (suc (suc (suc k)))) lt e = absurd (omega arith)

  misplaced_told : (entry : ℕ) → Explains (Misplaced entry) → Fails bs (Misplaced entry)
  unfolding explained place_rules
  misplaced_told entry h =
      let whole = said (File (length bs)) (length bs) (first_offence (length_rules bs)) in
      let of_entry = said (entry_record bs entry) (4 * entry) (first_offence (place_rules bs entry)) in
      elim (cases_eq entry 4) [
        | inl e ↦
            let f : eqb entry 4 ≡ true = eq-eqb entry 4 e in
            let g = none_not_some whole (ap is_some (sym (cond-true (eqb entry 4) whole (cond (ltb entry 4) of_entry None) f)) ∙ h) in
            subst (λ k. Fails bs (Misplaced k)) (sym e) (length_told (λ none. g (ap (said (File (length bs)) (length bs)) none)))
        | inr e ↦
            let b = of_record (entry_record bs entry) (4 * entry) 4 entry (first_offence (place_rules bs entry)) (ap is_some (sym (cond-false (eqb entry 4) whole (cond (ltb entry 4) of_entry None) (ne_eqb entry 4 e))) ∙ h) in
            place_told entry b.0 (one_broken _ (WrongPlace (place_wanted bs entry)) b.1)
      ]

  miscounted_told : (entry : ℕ) → Explains (Miscounted entry) → Fails bs (Miscounted entry)
  unfolding explained count_rules
  miscounted_told entry h =
      let b = of_record (entry_record bs entry) (4 * entry) 4 entry (first_offence (count_rules bs entry)) h in
      count_told entry b.0 (one_broken _ (WrongCount (fewest entry) (most entry)) b.1)

  -- whatever is explained is a test that fails
  pub explained_fails : (r : Refusal) → Explains r → Fails bs r
  unfolding explained
  explained_fails (Misplaced entry) h = misplaced_told entry h
  explained_fails (Miscounted entry) h = miscounted_told entry h
  explained_fails (BadMethod k) h = method_told k h
  explained_fails (BadNode n) h = node_told n h
  explained_fails (BadEdge i) h = edge_told i h
  explained_fails (BadRow r) h = row_told r h
  explained_fails TooMany h = absurd (false≢true h)
  explained_fails OtherCounts h = absurd (false≢true h)
  explained_fails UnfitTable h = absurd (false≢true h)
  explained_fails NotAnEdge h = absurd (false≢true h)
  explained_fails EdgeHeld h = absurd (false≢true h)
  explained_fails EdgesFull h = absurd (false≢true h)
  explained_fails InquiryFull h = absurd (false≢true h)
  explained_fails NotUnsafe h = absurd (false≢true h)
  explained_fails (LongTrace n) h = absurd (false≢true h)
  explained_fails (NotAStep place) h = absurd (false≢true h)
  explained_fails (StackFull place) h = absurd (false≢true h)
  explained_fails (ShortOutput needed) h = absurd (false≢true h)

  -- an explanation is given exactly where a test fails, and so of the first offence
  pub told : (r : Refusal) (o : Option Explanation) → o ≡ explained bs r → Decides (is_some o) (Fails bs r)
  told r o e = (λ h. explained_fails r (sym (ap is_some e) ∙ h), λ f. ap is_some e ∙ fails_explained r f)

  pub named : (r : Refusal) → first_offence (take_tests bs ++ check_tests bs) ≡ Some r → Fails bs r
  unfolding Fails
  named r h = first_fails (take_tests bs ++ check_tests bs) r h
