-- Laws of what a table holds, and of offering rows to it.
use Rattle.std.proofs.Common.{◌≡◌, ℕ, zero, suc, ◌<◌, ◌≤◌, true, false, ◌&&◌, ◌||◌, eqb, ltb, ◌⊎◌, List, [], ◌∷◌, ◌++◌, length, sym, refl, ap, ◌∙◌, inl, inr, arith, All}
use Rattle.std.proofs.lemmas.List.{append-nil, append_assoc}
use Rattle.std.proofs.lemmas.List.Elements.{All-nil, All-cons, All-head, All-tail}
use Rattle.std.proofs.lemmas.Bool.{false≢true, both_ways, eqb-true, eq-eqb, lt-ltb, le-ltb, ltb-true, ltb-false, and_parts, and_from, or_cases, or_left, or_right, or_from, cond-true, cond-false, cases_Bool}
use Rattle.model.specs.declared.Fact.{Fact}
use Rattle.model.specs.declared.Point.{Point}
use Rattle.model.specs.Tables.{start_of, end_of, row_at, same_point, same_fact, is_held, Search, put, offer, offer_all}

-- two points are the same exactly if their numbers are
pub point_same : (a b : Point) → same_point a b ≡ true → a ≡ b
point_same a b h =
    let s = and_parts (eqb a.node b.node) (eqb a.value b.value && eqb a.state b.state) h in
    let t = and_parts (eqb a.value b.value) (eqb a.state b.state) s.1 in
    let n : a.node ≡ b.node = eqb-true a.node b.node s.0 in
    let v : a.value ≡ b.value = eqb-true a.value b.value t.0 in
    let q : a.state ≡ b.state = eqb-true a.state b.state t.1 in
    λ i. record { node = n i; value = v i; state = q i }

pub same_point_lem : (a b : Point) → a ≡ b → same_point a b ≡ true
same_point_lem a b e =
    and_from (eqb a.node b.node) (eqb a.value b.value && eqb a.state b.state) (eq-eqb a.node b.node (ap (λ (p : Point). p.node) e))
    (and_from (eqb a.value b.value) (eqb a.state b.state) (eq-eqb a.value b.value (ap (λ (p : Point). p.value) e)) (eq-eqb a.state b.state (ap (λ (p : Point). p.state) e)))

-- two rows have one fact exactly if their points are the same
pub fact_same : (f g : Fact) → same_fact f g ≡ true → (start_of f ≡ start_of g) × (end_of f ≡ end_of g)
fact_same f g h =
    let s = and_parts (same_point (start_of f) (start_of g)) (same_point (end_of f) (end_of g)) h in
    (point_same (start_of f) (start_of g) s.0, point_same (end_of f) (end_of g) s.1)

pub same_fact_lem : (f g : Fact) → start_of f ≡ start_of g → end_of f ≡ end_of g → same_fact f g ≡ true
same_fact_lem f g a x = and_from (same_point (start_of f) (start_of g)) (same_point (end_of f) (end_of g)) (same_point_lem (start_of f) (start_of g) a) (same_point_lem (end_of f) (end_of g) x)

-- steps of the test: no row holds a fact, and the first row or a later one does
pub held_nil : (f : Fact) → is_held [] f ≡ false
unfolding is_held
held_nil f = refl

pub held_cons : (r : Fact) (rows : List Fact) (f : Fact) → is_held (r ∷ rows) f ≡ (same_fact r f || is_held rows f)
unfolding is_held
held_cons r rows f = refl

-- a fact is held exactly if some place has it
pub held_place : (rows : List Fact) (f : Fact) → is_held rows f ≡ true → (i : ℕ) × (i < length rows) × (same_fact (row_at rows i) f ≡ true)
held_place [] f h = absurd (both_ways (is_held [] f) (held_nil f) h)
held_place (r ∷ rows) f h = by (held_place rows f) (or_cases (same_fact r f) (is_held rows f) (sym (held_cons r rows f) ∙ h))
  where
    by : (is_held rows f ≡ true → (i : ℕ) × (i < length rows) × (same_fact (row_at rows i) f ≡ true)) → (same_fact r f ≡ true) ⊎ (is_held rows f ≡ true) → (i : ℕ) × (i < suc (length rows)) × (same_fact (row_at (r ∷ rows) i) f ≡ true)
    by later (inl here) = (0, omega arith, here)
    by later (inr h) = let p = later h in (suc p.0, omega (arith, p.1), p.2)

pub place_held : (rows : List Fact) (f : Fact) (i : ℕ) → i < length rows → same_fact (row_at rows i) f ≡ true → is_held rows f ≡ true
place_held [] f i lt h = absurd (omega arith)
place_held (r ∷ rows) f zero lt h = held_cons r rows f ∙ or_left (same_fact r f) (is_held rows f) h
place_held (r ∷ rows) f (suc i) lt h = held_cons r rows f ∙ or_right (same_fact r f) (is_held rows f) (place_held rows f i (omega arith) h)

-- what is held by rows is held by more rows
pub held_more : (rows more : List Fact) (f : Fact) → is_held rows f ≡ true → is_held (rows ++ more) f ≡ true
held_more [] more f h = absurd (both_ways (is_held [] f) (held_nil f) h)
held_more (r ∷ rows) more f h = held_cons r (rows ++ more) f ∙ by (held_more rows more f) (or_cases (same_fact r f) (is_held rows f) (sym (held_cons r rows f) ∙ h))
  where
    by : (is_held rows f ≡ true → is_held (rows ++ more) f ≡ true) → (same_fact r f ≡ true) ⊎ (is_held rows f ≡ true) → (same_fact r f || is_held (rows ++ more) f) ≡ true
    by later (inl here) = or_left (same_fact r f) (is_held (rows ++ more) f) here
    by later (inr h) = or_right (same_fact r f) (is_held (rows ++ more) f) (later h)

-- a row that is put behind is held
pub held_push : (rows : List Fact) (f : Fact) → is_held (rows ++ f ∷ []) f ≡ true
held_push [] f = held_cons f [] f ∙ or_left (same_fact f f) (is_held [] f) (same_fact_lem f f refl refl)
held_push (r ∷ rows) f = held_cons r (rows ++ f ∷ []) f ∙ or_right (same_fact r f) (is_held (rows ++ f ∷ []) f) (held_push rows f)

module _ (places : ℕ) where
  -- a row is passed over if the table is full, or holds its fact; else it is put behind the last row, if there is a place
  pub offer_full : (s : Search) (f : Fact) → s.full ≡ true → offer places s f ≡ s
  unfolding offer
  offer_full s f full = cond-true (s.full || is_held s.rows f) s (put places s f) (or_left s.full (is_held s.rows f) full)

  pub offer_held : (s : Search) (f : Fact) → is_held s.rows f ≡ true → offer places s f ≡ s
  unfolding offer
  offer_held s f held = cond-true (s.full || is_held s.rows f) s (put places s f) (or_right s.full (is_held s.rows f) held)

  pub offer_put : (s : Search) (f : Fact) → s.full ≡ false → is_held s.rows f ≡ false → offer places s f ≡ put places s f
  unfolding offer
  offer_put s f free new = cond-false (s.full || is_held s.rows f) s (put places s f) (or_from s.full (is_held s.rows f) free new)

  pub offer_new : (s : Search) (f : Fact) → s.full ≡ false → is_held s.rows f ≡ false → length s.rows < places → offer places s f ≡ record { rows = s.rows ++ f ∷ []; worked = s.worked; full = false }
  offer_new s f free new room =
      offer_put s f free new
      ∙ cond-true (ltb (length s.rows) places) (record { rows = s.rows ++ f ∷ []; worked = s.worked; full = false }) (record { rows = s.rows; worked = s.worked; full = true }) (lt-ltb (length s.rows) places room)

  pub offer_past : (s : Search) (f : Fact) → s.full ≡ false → is_held s.rows f ≡ false → places ≤ length s.rows → offer places s f ≡ record { rows = s.rows; worked = s.worked; full = true }
  offer_past s f free new none =
      offer_put s f free new
      ∙ cond-false (ltb (length s.rows) places) (record { rows = s.rows ++ f ∷ []; worked = s.worked; full = false }) (record { rows = s.rows; worked = s.worked; full = true }) (le-ltb (length s.rows) places none)

  -- what holds of a search after one row is offered, by what becomes of the row
  pub offer_ways : (P : Search → Type 0) (s : Search) (f : Fact) → ((s.full ≡ true) ⊎ (is_held s.rows f ≡ true) → P s)
      → (s.full ≡ false → is_held s.rows f ≡ false → length s.rows < places → P (record { rows = s.rows ++ f ∷ []; worked = s.worked; full = false }))
      → (s.full ≡ false → is_held s.rows f ≡ false → places ≤ length s.rows → P (record { rows = s.rows; worked = s.worked; full = true })) → P (offer places s f)
  offer_ways P s f passed new past = by (cases_Bool s.full) (cases_Bool (is_held s.rows f)) (cases_Bool (ltb (length s.rows) places))
    where
      by : (s.full ≡ true) ⊎ (s.full ≡ false) → (is_held s.rows f ≡ true) ⊎ (is_held s.rows f ≡ false) → (ltb (length s.rows) places ≡ true) ⊎ (ltb (length s.rows) places ≡ false) → P (offer places s f)
      by (inl full) held room = rw (offer_full s f full) (passed (inl full))
      by (inr free) (inl held) room = rw (offer_held s f held) (passed (inr held))
      by (inr free) (inr fresh) (inl room) = let lt = ltb-true (length s.rows) places room in rw (offer_new s f free fresh lt) (new free fresh lt)
      by (inr free) (inr fresh) (inr none) = let le = ltb-false (length s.rows) places none in rw (offer_past s f free fresh le) (past free fresh le)

  -- rows are offered one after another
  pub offers_nil : (s : Search) → offer_all places s [] ≡ s
  unfolding offer_all
  offers_nil s = refl

  pub offers_cons : (s : Search) (f : Fact) (fs : List Fact) → offer_all places s (f ∷ fs) ≡ offer_all places (offer places s f) fs
  unfolding offer_all
  offers_cons s f fs = refl

  pub offers_append : (s : Search) (fs gs : List Fact) → offer_all places s (fs ++ gs) ≡ offer_all places (offer_all places s fs) gs
  unfolding offer_all
  offers_append s [] gs = refl
  offers_append s (f ∷ fs) gs = offers_append (offer places s f) fs gs

  -- a search that is full stays as it is
  pub offers_full : (s : Search) (fs : List Fact) → s.full ≡ true → offer_all places s fs ≡ s
  unfolding offer_all
  offers_full s [] full = refl
  offers_full s (f ∷ fs) full = ap (λ t. offer_all places t fs) (offer_full s f full) ∙ offers_full s fs full

  -- what offering one of these rows keeps, offering all of them does
  pub offers_keep : (P : Search → Type 0) (Q : Fact → Type 0) → ((s : Search) (f : Fact) → Q f → P s → P (offer places s f)) → (s : Search) (fs : List Fact) → All Q fs → P s → P (offer_all places s fs)
  unfolding offer_all
  offers_keep P Q keeps s [] each h = h
  offers_keep P Q keeps s (f ∷ fs) each h = offers_keep P Q keeps (offer places s f) fs (All-tail Q f fs each) (keeps s f (All-head Q f fs each) h)

  -- offering works no row
  pub offer_worked : (s : Search) (f : Fact) → (offer places s f).worked ≡ s.worked
  offer_worked s f = offer_ways (λ t. t.worked ≡ s.worked) s f (λ h. refl) (λ free new room. refl) (λ free new none. refl)

  pub offers_worked : (s : Search) (fs : List Fact) → (offer_all places s fs).worked ≡ s.worked
  unfolding offer_all
  offers_worked s [] = refl
  offers_worked s (f ∷ fs) = offers_worked (offer places s f) fs ∙ offer_worked s f

  -- the rows stay, and more may stand behind them
  pub offer_more : (s : Search) (f : Fact) → (more : List Fact) × ((offer places s f).rows ≡ s.rows ++ more)
  offer_more s f =
      offer_ways (λ t. (more : List Fact) × (t.rows ≡ s.rows ++ more)) s f
      (λ h. ([], sym (append-nil s.rows))) (λ free new room. (f ∷ [], refl)) (λ free new none. ([], sym (append-nil s.rows)))

  pub offers_more : (s : Search) (fs : List Fact) → (more : List Fact) × ((offer_all places s fs).rows ≡ s.rows ++ more)
  unfolding offer_all
  offers_more s [] = ([], sym (append-nil s.rows))
  offers_more s (f ∷ fs) =
      let one = offer_more s f in
      let rest = offers_more (offer places s f) fs in
      (one.0 ++ rest.0, rest.1 ∙ ap (λ rows. rows ++ rest.0) one.1 ∙ append_assoc s.rows one.0 rest.0)

  -- a search that is not full was not full before
  pub offers_free : (s : Search) (fs : List Fact) → (offer_all places s fs).full ≡ false → s.full ≡ false
  offers_free s fs free = by (cases_Bool s.full)
    where
      by : (s.full ≡ true) ⊎ (s.full ≡ false) → s.full ≡ false
      by (inl full) = absurd (both_ways s.full (ap (λ (t : Search). t.full) (sym (offers_full s fs full)) ∙ free) full)
      by (inr h) = h

  -- what was held stays held
  pub offers_stay : (s : Search) (fs : List Fact) (f : Fact) → is_held s.rows f ≡ true → is_held (offer_all places s fs).rows f ≡ true
  offers_stay s fs f h = let m = offers_more s fs in rw m.1 (held_more s.rows m.0 f h)

  -- if the table is not full after it, a row that was offered is held
  pub offer_holds : (s : Search) (f : Fact) → (offer places s f).full ≡ false → is_held (offer places s f).rows f ≡ true
  offer_holds s f =
      offer_ways (λ t. t.full ≡ false → is_held t.rows f ≡ true) s f
      (λ h free. by h free) (λ free new room _. held_push s.rows f) (λ free new none h. absurd (false≢true (sym h)))
    where
      by : (s.full ≡ true) ⊎ (is_held s.rows f ≡ true) → s.full ≡ false → is_held s.rows f ≡ true
      by (inl full) free = absurd (both_ways s.full free full)
      by (inr held) free = held

  pub offers_hold : (s : Search) (fs : List Fact) → (offer_all places s fs).full ≡ false → All (λ f. is_held (offer_all places s fs).rows f ≡ true) fs
  unfolding offer_all
  offers_hold s [] free = All-nil (λ f. is_held (offer_all places s []).rows f ≡ true)
  offers_hold s (f ∷ fs) free =
      All-cons (λ g. is_held (offer_all places (offer places s f) fs).rows g ≡ true) f fs
      (offers_stay (offer places s f) fs f (offer_holds s f (offers_free (offer places s f) fs free))) (offers_hold (offer places s f) fs free)
