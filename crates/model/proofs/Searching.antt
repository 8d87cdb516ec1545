-- An opening is sound, and working facts keeps a search sound.
use Rattle.std.proofs.Common.{◌≡◌, ℕ, zero, suc, ◌+◌, ◌<◌, ◌≤◌, true, false, not, ltb, ◌⊎◌, List, [], ◌∷◌, ◌++◌, length, sym, refl, ap, ◌∙◌, subst, inl, inr, arith, All, Contains}
use Rattle.std.proofs.lemmas.List.{append-nil, append_assoc, length-append, length_push}
use Rattle.std.proofs.lemmas.List.Elements.{All-contains, All-weaker}
use Rattle.std.proofs.lemmas.Bool.{false≢true, both_ways, ltb-true, and_parts, cond_both}
use Rattle.model.specs.declared.Fact.{Fact}
use Rattle.model.specs.Facts.{Setting}
use Rattle.model.specs.Searches.{Sound}
use Rattle.model.specs.Tables.{row_at, is_held, firsts, offers, Search, offer, offer_all, empty, opened, work, pending, dug}
use Rattle.model.proofs.Grounded.{Given, first, follow, enter, back, given_derived, derived_given, derived_from, given_from, given_later, given_more, given_front, Grounded, grounded_nil, grounded_push}
use Rattle.model.proofs.Held.{offer_ways, offers_keep, offers_worked, offers_more, offers_free, offers_stay, offers_hold}
use Rattle.model.proofs.Offered.{firsts_given, has_firsts, offers_given, given_offered}

-- what holds of a search whose rows began with these, while rows that these give are offered
record Grown (X : Setting) (places : ℕ) (start : List Fact) (s : Search) : Type 0 where
  grounded : Grounded X s.rows
  placed : length s.rows ≤ places
  beyond : s.full ≡ true → (length s.rows ≡ places) × ((f : Fact) × Given X s.rows (length s.rows) f × (is_held s.rows f ≡ false))
  more : (more : List Fact) × (s.rows ≡ start ++ more)

module _ (X : Setting) (places : ℕ) where
  -- all of the rows give what those in front give
  front_gives : (rows start : List Fact) (f : Fact) → (more : List Fact) × (rows ≡ start ++ more) → Given X start (length start) f → Given X rows (length rows) f
  front_gives rows start f m g =
      let n = length-append start m.0 in
      rw m.1 (given_later X (start ++ m.0) (length start) (length (start ++ m.0)) f (omega arith) (given_more X start m.0 (length start) f (omega arith) g))

  offer_grown : (start : List Fact) (s : Search) (f : Fact) → Given X start (length start) f → Grown X places start s → Grown X places start (offer places s f)
  offer_grown start s f g h =
      let now = front_gives s.rows start f h.more g in
      let p = h.placed in
      offer_ways places (Grown X places start) s f (λ passed. h)
      (λ free new room. record {
        grounded = grounded_push X s.rows f h.grounded now new;
        placed = simp length_push (omega arith);
        beyond = λ full. absurd (false≢true full);
        more = (h.more.0 ++ f ∷ [], ap (λ rows. rows ++ f ∷ []) h.more.1 ∙ append_assoc start h.more.0 (f ∷ []));
      })
      (λ free new none. record { grounded = h.grounded; placed = h.placed; beyond = λ full. (omega arith, (f, now, new)); more = h.more })

  offers_grown : (start : List Fact) (s : Search) (fs : List Fact) → All (Given X start (length start)) fs → Grown X places start s → Grown X places start (offer_all places s fs)
  offers_grown start s fs each h = offers_keep places (Grown X places start) (Given X start (length start)) (offer_grown start) s fs each h

  -- a grown search is sound if the worked rows are among them, and what they give is held
  grown_sound : (start : List Fact) (s : Search) → Grown X places start s → s.worked ≤ length s.rows → (s.full ≡ false → (f : Fact) → Given X s.rows s.worked f → is_held s.rows f ≡ true) → Sound X places s
  grown_sound start s h some closed =
      let rows = s.rows in
      record {
        derived = λ i lt. derived_from X rows i (row_at rows i) (omega arith) (h.grounded.given i lt);
        once = h.grounded.once;
        placed = h.placed;
        some = some;
        closed = λ free f d. closed free f (given_from X rows s.worked f some d);
        beyond = λ full. let b = h.beyond full in (b.0, (b.1.0, given_derived X rows b.1.1, b.1.2));
      }

  -- the rows of a sound search are grounded, and it is grown from them
  pub sound_grounded : (s : Search) → Sound X places s → Grounded X s.rows
  sound_grounded s h = record { given = λ i lt. given_from X s.rows i (row_at s.rows i) (omega arith) (h.derived i lt); once = h.once }

  sound_grown : (s : Search) → Sound X places s → Grown X places s.rows s
  sound_grown s h = record {
    grounded = sound_grounded s h;
    placed = h.placed;
    beyond = λ full. let b = h.beyond full in (b.0, (b.1.0, derived_given X s.rows b.1.1, b.1.2));
    more = ([], sym (append-nil s.rows));
  }

  first_held : (s : Search) {f : Fact} → All (λ f. is_held s.rows f ≡ true) (firsts X) → Given X s.rows 0 f → is_held s.rows f ≡ true
  first_held s each (first n h) = All-contains (λ f. is_held s.rows f ≡ true) (firsts X) _ each (has_firsts X n h)
  first_held s each (follow i m lt g l) = absurd (omega arith)
  first_held s each (enter i m lt g) = absurd (omega arith)
  first_held s each (back i j m lt below g l) = absurd (omega arith)

  pub opened_sound : Sound X places (opened X places)
  unfolding opened
  opened_sound =
      let s = offer_all places empty (firsts X) in
      let none : s.worked ≡ 0 = offers_worked places empty (firsts X) in
      grown_sound [] s (offers_grown [] empty (firsts X) (firsts_given X) (record { grounded = grounded_nil X; placed = omega arith; beyond = λ full. absurd (false≢true full); more = ([], refl) })) (omega arith)
      (λ free f g. first_held s (offers_hold places empty (firsts X) free) (subst (λ n. Given X s.rows n f) none g))

  -- where a fact was worked, what the rows up to it give is held, unless the table turned full
  work_closed : (s : Search) → Sound X places s → s.worked < length s.rows → (offer_all places s (offers X s.rows s.worked)).full ≡ false
      → (f : Fact) → Given X (offer_all places s (offers X s.rows s.worked)).rows (s.worked + 1) f → is_held (offer_all places s (offers X s.rows s.worked)).rows f ≡ true
  work_closed s h lt free f g =
      let m = offers_more places s (offers X s.rows s.worked) in
      by (given_offered X s.rows s.worked (given_front X s.rows m.0 (s.worked + 1) f (omega arith) (subst (λ rs. Given X rs (s.worked + 1) f) m.1 g)))
    where
      by : Given X s.rows s.worked f ⊎ Contains (offers X s.rows s.worked) f → is_held (offer_all places s (offers X s.rows s.worked)).rows f ≡ true
      by (inl before) =
          offers_stay places s (offers X s.rows s.worked) f
          (h.closed (offers_free places s (offers X s.rows s.worked) free) f (derived_from X s.rows s.worked f h.some before))
      by (inr offered) =
          All-contains (λ r. is_held (offer_all places s (offers X s.rows s.worked)).rows r ≡ true) (offers X s.rows s.worked) f (offers_hold places s (offers X s.rows s.worked) free) offered

  -- a fact is worked: what its row gives is held, or the table turned full
  work_sound : (s : Search) → Sound X places s → s.worked < length s.rows → Sound X places (work X places s)
  unfolding work
  work_sound s h lt =
      let fs = offers X s.rows s.worked in
      let t = offer_all places s fs in
      let w : t.worked ≡ s.worked = offers_worked places s fs in
      let m = offers_more places s fs in
      let n : length t.rows ≡ length s.rows + length m.0 = ap length m.1 ∙ length-append s.rows m.0 in
      let grown = offers_grown s.rows s fs (All-weaker (Given X s.rows (s.worked + 1)) (Given X s.rows (length s.rows)) (λ f g. given_later X s.rows (s.worked + 1) (length s.rows) f (omega arith) g) fs (offers_given X s.rows s.worked)) (sound_grown s h) in
      cond_both t.full t (record { rows = t.rows; worked = t.worked + 1; full = t.full }) (Sound X places)
      (λ full. grown_sound s.rows t grown (omega arith) (λ free. absurd (both_ways t.full free full)))
      (λ free. grown_sound s.rows (record { rows = t.rows; worked = t.worked + 1; full = t.full }) (record { grounded = grown.grounded; placed = grown.placed; beyond = grown.beyond; more = grown.more }) (omega arith)
      (λ _ f g. work_closed s h lt free f (subst (λ n. Given X t.rows (n + 1) f) w g)))

  pub dug_sound : (k : ℕ) (s : Search) → Sound X places s → Sound X places (dug X places k s)
  unfolding dug
  dug_sound zero s h = h
  dug_sound (suc k) s h =
      cond_both (pending s) (dug X places k (work X places s)) s (Sound X places)
      (λ more. dug_sound k (work X places s) (work_sound s h (ltb-true s.worked (length s.rows) (and_parts (not s.full) (ltb s.worked (length s.rows)) more).1))) (λ none. h)

  -- working a fact only adds rows
  work_adds : (s : Search) → (more : List Fact) × ((work X places s).rows ≡ s.rows ++ more)
  unfolding work
  work_adds s =
      let t = offer_all places s (offers X s.rows s.worked) in
      let m = offers_more places s (offers X s.rows s.worked) in
      cond_both t.full t (record { rows = t.rows; worked = t.worked + 1; full = t.full }) (λ u. (more : List Fact) × (u.rows ≡ s.rows ++ more)) (λ full. m) (λ free. m)

  -- and so does working up to k facts
  pub dug_adds : (k : ℕ) (s : Search) → (more : List Fact) × ((dug X places k s).rows ≡ s.rows ++ more)
  unfolding dug
  dug_adds zero s = ([], sym (append-nil s.rows))
  dug_adds (suc k) s =
      let first = work_adds s in
      let rest = dug_adds k (work X places s) in
      cond_both (pending s) (dug X places k (work X places s)) s (λ t. (more : List Fact) × (t.rows ≡ s.rows ++ more))
      (λ more. (first.0 ++ rest.0, rest.1 ∙ ap (λ rows. rows ++ rest.0) first.1 ∙ append_assoc s.rows first.0 rest.0)) (λ none. ([], sym (append-nil s.rows)))
