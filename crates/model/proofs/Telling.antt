-- What a sound search tells: its rows are yielded facts, none twice; a search that is through holds all of them; and a full one lacks some.
use Rattle.std.proofs.Common.{◌≡◌, ℕ, zero, suc, ◌+◌, ◌<◌, ◌≤◌, true, ◌⊎◌, List, [], ◌∷◌, ◌++◌, length, get_or, take, sym, refl, ap, ◌∙◌, subst, inl, inr, arith}
use Rattle.std.proofs.lemmas.List.{length-append, length-map, length_push, length-take-le, get_or-take, get_or-map, take_all}
use Rattle.std.proofs.lemmas.Bool.{both_ways, and_from, cases_order}
use Rattle.model.specs.declared.Fact.{Fact}
use Rattle.model.specs.Access.{call_enters}
use Rattle.model.specs.declared.Point.{Point}
use Rattle.model.specs.Facts.{Setting, Derives, Yields, kind_at, follow_point, enter_point, back_point}
use Rattle.model.specs.Facts.{first as derive_first, follow as derive_follow, enter as derive_enter, back as derive_back}
use Rattle.model.specs.Program.{Leads}
use Rattle.model.specs.Runs.{goes_on, returns_at}
use Rattle.model.specs.Searches.{Sound, HeldAt, Through, fact_in, Different, Told, facts_of}
use Rattle.model.specs.Tables.{start_of, end_of, row_at, no_fact, capped, first_row, follow_row, enter_row, back_row, same_point, gives, is_held, Search, Tale, no_tale, tale_of, tale_at}
use Rattle.model.proofs.Summaries.{facts_sum_up_runs}
use Rattle.model.proofs.Grounded.{Given, first, follow, enter, back, given_derived, derived_given, Grounded, grounded_push}
use Rattle.model.proofs.Held.{point_same, same_point_lem, fact_same, same_fact_lem, held_place, place_held}
use Rattle.model.proofs.Offered.{joins_parts}
use Rattle.model.proofs.Searching.{sound_grounded}
use Rattle.model.proofs.Tales.{tales_below, tale_source, tale_none, tale_is}

-- lengths that are held at the greatest, one more and added up
capped_more : (n : ℕ) → capped (capped n + 1) ≡ capped (suc n)
capped_more n = omega arith

capped_sum : (a b n : ℕ) → b + a ≡ n → capped (capped a + capped b + 1) ≡ capped (suc n)
capped_sum a b n e = omega arith

-- a row's fact is derived with this tale, whose stretch has the row's length
abbrev Tells : Setting → Fact → Tale → Type 0
Tells X f t = Derives X (start_of f) (end_of f) t.stretch t.below × (f.span ≡ capped (length t.stretch))

-- the two points of a row's fact
abbrev pub fact_of : Fact → Point × Point
fact_of r = (start_of r, end_of r)

pub fact_in_lem : (rows : List Fact) (i : ℕ) → i < length rows → fact_in (facts_of rows) i ≡ fact_of (row_at rows i)
fact_in_lem rows i lt = get_or-map fact_of rows i no_fact _ lt

module _ (X : Setting) (rows : List Fact) where
  -- a row that is given tells its tale if the rows before it do
  row_tells : (i : ℕ) → i ≤ length rows → ((k : ℕ) → k < i → Tells X (row_at rows k) (tale_at rows k)) → {f : Fact} → Given X rows i f → Tells X f (tale_of (tales_below rows i) f)
  row_tells i le before (first n h) =
      subst (λ t. Tells X (first_row X n) (record { stretch = n ∷ (t.stretch ++ t.stretch); below = t.below })) (sym (tale_none rows i le)) (derive_first n h, refl)
  row_tells i le before (follow k m lt g l) =
      let c = row_at rows k in
      let d = before k lt in
      subst (λ t. Tells X (follow_row X k c m) (record { stretch = m ∷ ((get_or (tales_below rows i) 0 no_tale).stretch ++ t.stretch); below = t.below })) (sym (tale_source rows i le k lt))
      (subst (λ (t : Tale). Tells X (follow_row X k c m) (record { stretch = m ∷ (t.stretch ++ (tale_at rows k).stretch); below = (tale_at rows k).below })) (sym (tale_none rows i le))
      (derive_follow m d.0 g l, ap (λ n. capped (n + 1)) d.1 ∙ capped_more (length (tale_at rows k).stretch)))
  row_tells i le before (enter k m lt g) =
      let c = row_at rows k in
      subst (λ (t : Tale). Tells X (enter_row X k c m) (record { stretch = m ∷ []; below = t.stretch ++ t.below })) (sym (tale_source rows i le k lt)) (derive_enter m (before k lt).0 g, refl)
  row_tells i le before (back k j m lt under g l) =
      let c = row_at rows k in
      let x = row_at rows j in
      let d = before k lt in
      let e = before j under in
      let p = joins_parts X c x g in
      let start : start_of x ≡ enter_point X (end_of c) x.entry = sym (point_same (enter_point X (end_of c) x.entry) (start_of x) p.2) in
      let inner = subst (λ s. Derives X s (end_of x) (tale_at rows j).stretch (tale_at rows j).below) start e.0 in
      subst (λ (t : Tale). Tells X (back_row X k c j x m) (record { stretch = m ∷ ((get_or (tales_below rows i) (j + 1) no_tale).stretch ++ t.stretch); below = t.below })) (sym (tale_source rows i le k lt))
      (subst (λ (t : Tale). Tells X (back_row X k c j x m) (record { stretch = m ∷ (t.stretch ++ (tale_at rows k).stretch); below = (tale_at rows k).below })) (sym (tale_source rows i le j under)) (
        derive_back x.entry m d.0 p.1 inner p.0 l,
        ap (λ n. capped (n + x.span + 1)) d.1 ∙ ap (λ n. capped (capped (length (tale_at rows k).stretch) + n + 1)) e.1
            ∙ capped_sum (length (tale_at rows k).stretch) (length (tale_at rows j).stretch) (length ((tale_at rows j).stretch ++ (tale_at rows k).stretch)) (sym (length-append (tale_at rows j).stretch (tale_at rows k).stretch)),
      ))

  module _ (h : Grounded X rows) where
    -- each row tells its tale: those below place n, one after another
    tells_below : (n i : ℕ) → i < n → i < length rows → Tells X (row_at rows i) (tale_at rows i)
    tells_below zero i below lt = absurd (omega arith)
    tells_below (suc n) i below lt =
        subst (Tells X (row_at rows i)) (sym (tale_is rows i lt)) (row_tells i (omega arith) (λ k less. tells_below n k (omega arith) (omega arith)) (h.given i lt))

    rows_tell : (i : ℕ) → i < length rows → Tells X (row_at rows i) (tale_at rows i)
    rows_tell i lt = tells_below (length rows) i lt lt

    rows_yield : (i : ℕ) → i < length rows → Yields X (start_of (row_at rows i)) (end_of (row_at rows i))
    rows_yield i lt = ((tale_at rows i).stretch, (tale_at rows i).below, (rows_tell i lt).0)

    -- two rows do not have the same points
    rows_apart : (i j : ℕ) → i < j → j < length rows → start_of (row_at rows i) ≡ start_of (row_at rows j) → end_of (row_at rows i) ≡ end_of (row_at rows j) → ⊥
    rows_apart i j lt far a x =
        let n = length-take-le j rows (omega arith) in
        both_ways (is_held (take j rows) (row_at rows j)) (h.once j far)
        (place_held (take j rows) (row_at rows j) i (omega arith) (rw (get_or-take j rows i no_fact lt) (same_fact_lem (row_at rows i) (row_at rows j) a x)))

    rows_once : (i j : ℕ) (a x : Point) → HeldAt rows a x i → HeldAt rows a x j → i ≡ j
    rows_once i j a x p q = by (cases_order i j)
      where
        by : (i ≡ j) ⊎ ((i < j) ⊎ (j < i)) → i ≡ j
        by (inl e) = e
        by (inr (inl lt)) = absurd (rows_apart i j lt q.0 (p.1 ∙ sym q.1) (p.2 ∙ sym q.2))
        by (inr (inr gt)) = absurd (rows_apart j i gt p.0 (q.1 ∙ sym p.1) (q.2 ∙ sym p.2))

    -- the facts of the rows are yielded, and no two of them are the same
    pub facts_differ : Different X (facts_of rows)
    facts_differ =
        let n = length-map rows fact_of in
        record {
          yielded = λ i lt. rw (fact_in_lem rows i (omega arith)) (rows_yield i (omega arith));
          apart = λ i j lt far e.
              let same : fact_of (row_at rows i) ≡ fact_of (row_at rows j) = sym (fact_in_lem rows i (omega arith)) ∙ e ∙ fact_in_lem rows j (omega arith) in
              rows_apart i j lt (omega arith) (ap (λ (p : Point × Point). p.0) same) (ap (λ (p : Point × Point). p.1) same);
        }

-- rows that give only what they hold have every yielded fact
module _ (X : Setting) (rows : List Fact) (closed : (f : Fact) → Given X rows (length rows) f → is_held rows f ≡ true) where
  given_place : (f : Fact) → Given X rows (length rows) f → (i : ℕ) × HeldAt rows (start_of f) (end_of f) i
  given_place f g =
      let p = held_place rows f (closed f g) in
      let e = fact_same (row_at rows p.0) f p.2 in
      (p.0, (p.1, e.0, e.1))

  yielded_place : {a x : Point} {l b : List ℕ} → Derives X a x l b → (i : ℕ) × HeldAt rows a x i
  yielded_place (derive_first n h) = given_place (first_row X n) (first n h)
  yielded_place (derive_follow {s} {c} m d g l) =
      let p = yielded_place d in
      let r = row_at rows p.0 in
      let from : end_of r ≡ c = p.1.2 in
      let q = given_place (follow_row X p.0 r m) (follow p.0 m p.1.0 (subst (λ c. goes_on X.rule (kind_at X c) c.node c.value ≡ true) (sym from) g) (subst (λ (c : Point). Leads X.edges c.node m) (sym from) l)) in
      (q.0, (q.1.0, q.1.1 ∙ p.1.1, q.1.2 ∙ ap (λ c. follow_point X c m) from))
  yielded_place (derive_enter {s} {c} m d g) =
      let p = yielded_place d in
      let r = row_at rows p.0 in
      let from : end_of r ≡ c = p.1.2 in
      let q = given_place (enter_row X p.0 r m) (enter p.0 m p.1.0 (subst (λ c. call_enters X.program (kind_at X c) m ≡ true) (sym from) g)) in
      (q.0, (q.1.0, q.1.1 ∙ ap (λ c. enter_point X c m) from, q.1.2 ∙ ap (λ c. enter_point X c m) from))
  yielded_place (derive_back {s} {c} {x} m to d g e r l) =
      let p = yielded_place d in
      let o = yielded_place e in
      let call = row_at rows p.0 in
      let ret = row_at rows o.0 in
      let from : end_of call ≡ c = p.1.2 in
      let at : end_of ret ≡ x = o.1.2 in
      let entry : ret.entry ≡ m = ap (λ (s : Point). s.node) o.1.1 in
      let enters : call_enters X.program (kind_at X (end_of call)) ret.entry ≡ true = subst (λ c. call_enters X.program (kind_at X c) ret.entry ≡ true) (sym from) (subst (λ m. call_enters X.program (kind_at X c) m ≡ true) (sym entry) g) in
      let same : enter_point X (end_of call) ret.entry ≡ start_of ret = ap (λ c. enter_point X c ret.entry) from ∙ ap (enter_point X c) entry ∙ sym o.1.1 in
      let joined = and_from (returns_at X.program ret.node) (gives X (end_of call) (start_of ret)) (subst (λ (x : Point). returns_at X.program x.node ≡ true) (sym at) r)
      (and_from (call_enters X.program (kind_at X (end_of call)) ret.entry) (same_point (enter_point X (end_of call) ret.entry) (start_of ret)) enters (same_point_lem (enter_point X (end_of call) ret.entry) (start_of ret) same)) in
      let q = given_place (back_row X p.0 call o.0 ret to) (back p.0 o.0 to p.1.0 o.1.0 joined (subst (λ (c : Point). Leads X.edges c.node to) (sym from) l)) in
      (q.0, (q.1.0, q.1.1 ∙ p.1.1, q.1.2 ∙ ap (λ c. back_point X c (end_of ret) to) from ∙ ap (λ x. back_point X c x to) at))

-- a search that is through gives only what it holds
through_closed : (X : Setting) (places : ℕ) (s : Search) → Sound X places s → Through s → (f : Fact) → Given X s.rows (length s.rows) f → is_held s.rows f ≡ true
through_closed X places s h t f g = h.closed t.0 f (rw (take_all s.worked s.rows t.1) (given_derived X s.rows g))

-- what is sound tells of the setting, since facts sum up runs
pub search_tells : (X : Setting) (places : ℕ) (s : Search) → Sound X places s → Told X places s
search_tells X places s h =
    let rows = s.rows in
    let ground = sound_grounded X places s h in
    record {
      derived = h.derived;
      yielded = λ i lt. (rows_tell X rows ground i lt).0;
      spans = λ i lt. (rows_tell X rows ground i lt).1;
      once = rows_once X rows ground;
      exact = λ t a x y. yielded_place X rows (through_closed X places s h t) y.2;
      bad_run = λ i lt bad. (facts_sum_up_runs X).bad_run (start_of (row_at rows i), end_of (row_at rows i), rows_yield X rows ground i lt, bad);
      bad_held = λ t run.
          let f = (facts_sum_up_runs X).bad_fact run in
          let p = yielded_place X rows (through_closed X places s h t) f.2.2 in
          (p.0, p.1.0, ap (λ (x : Point). X.watch.bad x.state) p.1.2 ∙ f.3);
      beyond = λ full.
          let b = h.beyond full in
          let f = b.1.0 in
          let n = length_push rows f in
          (b.0, (facts_of (rows ++ f ∷ []), simp length-map (omega arith), facts_differ X (rows ++ f ∷ []) (grounded_push X rows f ground (derived_given X rows b.1.1) b.1.2)));
    }
