-- Verdicts: what a sound search says is right, and a long dig leaves nothing unfinished.
use Rattle.std.proofs.Common.{◌≡◌, ℕ, zero, suc, ◌+◌, ◌<◌, ◌≤◌, true, false, not, ltb, leb, ◌⊎◌, List, [], ◌∷◌, length, sym, refl, ap, ◌∙◌, inl, inr, arith}
use Rattle.std.proofs.lemmas.Bool.{both_ways, or_parts, and_from, and_parts, not-true, not_from_false, false_from_ne_true, ltb-true, leb-true, leb-false, lt-ltb, cond-true, cond-false, cond_both, cases_Bool}
use Rattle.model.specs.declared.Fact.{Fact}
use Rattle.model.specs.declared.Verdict.{Verdict}
use Rattle.model.specs.declared.Verdict.TheVariants.{Safe, Unsafe, Full, Unfinished}
use Rattle.model.specs.Facts.{Setting}
use Rattle.model.specs.Searches.{Sound, Told, Means, SearchLaws}
use Rattle.model.specs.Tables.{Search, row_at, any_bad, first_bad, verdict_of, offer_all, offers, work, pending, dug}
use Rattle.model.specs.Watches.{Watch}
use Rattle.model.proofs.Held.{offers_worked}
use Rattle.model.proofs.Linking.{links_sound, links_fit, links_agree}
use Rattle.model.proofs.Searching.{opened_sound, dug_sound, dug_adds}
use Rattle.model.proofs.Telling.{search_tells}
use Rattle.model.proofs.Traces.{first_is_bad, told_shows, trace_stays}

-- where no held fact is bad, none of the rows is
pub none_bad : (W : Watch) (rows : List Fact) (i : ℕ) → any_bad W rows ≡ false → i < length rows → W.bad (row_at rows i).state ≡ false
unfolding any_bad
none_bad W [] i h lt = absurd (omega arith)
none_bad W (r ∷ rows) zero h lt = (or_parts (W.bad r.state) (any_bad W rows) h).0
none_bad W (r ∷ rows) (suc i) h lt = none_bad W rows i (or_parts (W.bad r.state) (any_bad W rows) h).1 (omega arith)

-- the four cases of a verdict, each with what led to it
data Led (W : Watch) (s : Search) : Verdict → Type 0 where
  bad : any_bad W s.rows ≡ true → Led W s Unsafe
  past : s.full ≡ true → Led W s Full
  through : any_bad W s.rows ≡ false → s.full ≡ false → length s.rows ≤ s.worked → Led W s Safe
  left : s.full ≡ false → s.worked < length s.rows → Led W s Unfinished

led : (W : Watch) (s : Search) → Led W s (verdict_of W s)
led W s =
    cond_both (any_bad W s.rows) Unsafe _ (Led W s) bad
    (λ none. cond_both s.full Full _ (Led W s) past
    (λ free. cond_both (leb (length s.rows) s.worked) Safe Unfinished (Led W s) (λ h. through none free (leb-true (length s.rows) s.worked h)) (λ h. left free (leb-false (length s.rows) s.worked h))))

module _ (X : Setting) (places : ℕ) (s : Search) (told : Told X places s) where
  led_means : {v : Verdict} → Led X.watch s v → Means X places s v
  led_means (bad h) = record {
    safe = λ e. absurd (let z : ◌≡◌ {A = ℕ} 0 1 = cc in omega arith);
    exact = λ e. absurd (let z : ◌≡◌ {A = ℕ} 0 1 = cc in omega arith);
    unsafe = λ e. let p = first_is_bad X.watch s.rows h in told.bad_run (first_bad X.watch s.rows) p.0 p.1;
    full = λ e. absurd (let z : ◌≡◌ {A = ℕ} 0 1 = cc in omega arith);
  }
  led_means (past h) = record {
    safe = λ e. absurd (let z : ◌≡◌ {A = ℕ} 0 1 = cc in omega arith);
    exact = λ e. absurd (let z : ◌≡◌ {A = ℕ} 0 1 = cc in omega arith);
    unsafe = λ e. absurd (let z : ◌≡◌ {A = ℕ} 0 1 = cc in omega arith);
    full = λ e. told.beyond h;
  }
  led_means (through none free all) = record {
    safe = λ e run. let p = told.bad_held (free, all) run in both_ways (X.watch.bad (row_at s.rows p.0).state) (none_bad X.watch s.rows p.0 none p.1) p.2;
    exact = λ e. told.exact (free, all);
    unsafe = λ e. absurd (let z : ◌≡◌ {A = ℕ} 0 1 = cc in omega arith);
    full = λ e. absurd (let z : ◌≡◌ {A = ℕ} 0 1 = cc in omega arith);
  }
  led_means (left free more) = record {
    safe = λ e. absurd (let z : ◌≡◌ {A = ℕ} 0 1 = cc in omega arith);
    exact = λ e. absurd (let z : ◌≡◌ {A = ℕ} 0 1 = cc in omega arith);
    unsafe = λ e. absurd (let z : ◌≡◌ {A = ℕ} 0 1 = cc in omega arith);
    full = λ e. absurd (let z : ◌≡◌ {A = ℕ} 0 1 = cc in omega arith);
  }

-- a sound search's verdict is right
pub verdict_means : (X : Setting) (places : ℕ) (s : Search) → Sound X places s → Means X places s (verdict_of X.watch s)
verdict_means X places s h = led_means X places s (search_tells X places s h) (led X.watch s)

-- working a fact finishes that one or none
work_counts : (X : Setting) (places : ℕ) (s : Search) → (s.worked ≤ (work X places s).worked) × ((work X places s).worked ≤ s.worked + 1)
unfolding work
work_counts X places s =
    let t = offer_all places s (offers X s.rows s.worked) in
    let still = offers_worked places s (offers X s.rows s.worked) in
    cond_both t.full t (record { rows = t.rows; worked = t.worked + 1; full = t.full }) (λ u. (s.worked ≤ u.worked) × (u.worked ≤ s.worked + 1))
    (λ full. (omega arith, omega arith)) (λ free. (omega arith, omega arith))

-- where something is left to work after a fact, the fact was finished
work_on : (X : Setting) (places : ℕ) (s : Search) → pending (work X places s) ≡ true → (work X places s).worked ≡ s.worked + 1
unfolding work
work_on X places s =
    let t = offer_all places s (offers X s.rows s.worked) in
    let still = offers_worked places s (offers X s.rows s.worked) in
    cond_both t.full t (record { rows = t.rows; worked = t.worked + 1; full = t.full }) (λ u. pending u ≡ true → u.worked ≡ s.worked + 1)
    (λ full h. absurd (both_ways t.full (not-true t.full (and_parts (not t.full) (ltb t.worked (length t.rows)) h).0) full)) (λ free h. omega arith)

module _ (X : Setting) (places : ℕ) where
  -- a dig leaves the worked facts worked, and finishes no more than it is allowed
  dug_counts : (k : ℕ) (s : Search) → (s.worked ≤ (dug X places k s).worked) × ((dug X places k s).worked ≤ s.worked + k)
  unfolding dug
  dug_counts zero s = (omega arith, omega arith)
  dug_counts (suc k) s =
      let one = work_counts X places s in
      let rest = dug_counts k (work X places s) in
      cond_both (pending s) (dug X places k (work X places s)) s (λ t. (s.worked ≤ t.worked) × (t.worked ≤ s.worked + suc k))
      (λ some. (omega arith, omega arith)) (λ none. (omega arith, omega arith))

  -- something is left after a dig only if something was before it, and the dig finished all that it was allowed
  dug_before : (k : ℕ) (s : Search) → pending (dug X places k s) ≡ true → pending s ≡ true
  unfolding dug
  dug_before zero s h = h
  dug_before (suc k) s h = by (cases_Bool (pending s))
    where
      by : (pending s ≡ true) ⊎ (pending s ≡ false) → pending s ≡ true
      by (inl yes-left) = yes-left
      by (inr none_left) = ap pending (sym (cond-false (pending s) (dug X places k (work X places s)) s none_left)) ∙ h

  dug_all : (k : ℕ) (s : Search) → pending (dug X places k s) ≡ true → s.worked + k ≤ (dug X places k s).worked
  unfolding dug
  dug_all zero s h = omega arith
  dug_all (suc k) s h =
      let some = dug_before (suc k) s h in
      let next = cond-true (pending s) (dug X places k (work X places s)) s some in
      let left : pending (dug X places k (work X places s)) ≡ true = ap pending (sym next) ∙ h in
      let rest = dug_all k (work X places s) left in
      let one = work_on X places s (dug_before k (work X places s) left) in
      let same = ap (λ (u : Search). u.worked) next in
      omega arith

  -- where nothing is to be worked a dig changes nothing
  pub dug_rests : (k : ℕ) (s : Search) → pending s ≡ false → dug X places k s ≡ s
  unfolding dug
  dug_rests zero s none = refl
  dug_rests (suc k) s none = cond-false (pending s) (dug X places k (work X places s)) s none

  -- a dig of as many facts as there are places leaves nothing to work
  pub dug_works_all : (k : ℕ) (s : Search) → Sound X places s → places ≤ k → pending (dug X places k s) ≡ false
  dug_works_all k s sound enough =
      let t = dug X places k s in
      let few = (dug_sound X places k s sound).placed in
      false_from_ne_true (pending t) (λ busy.
      let far = dug_all k s busy in
      let more = ltb-true t.worked (length t.rows) (and_parts (not t.full) (ltb t.worked (length t.rows)) busy).1 in
      omega arith)

-- so its verdict is not that it is unfinished
pub dug_ends : (X : Setting) (places k : ℕ) (s : Search) → Sound X places s → places ≤ k → verdict_of X.watch (dug X places k s) ≡ Unfinished → ⊥
dug_ends X places k s sound enough = by (led X.watch t)
  where
    t : Search
    t = dug X places k s

    by : {v : Verdict} → Led X.watch t v → v ≡ Unfinished → ⊥
    by (bad h) e = let z : ◌≡◌ {A = ℕ} 0 1 = cc in omega arith
    by (past h) e = let z : ◌≡◌ {A = ℕ} 0 1 = cc in omega arith
    by (through none free all) e = let z : ◌≡◌ {A = ℕ} 0 1 = cc in omega arith
    by (left free more) e =
        both_ways (pending t) (dug_works_all X places k s sound enough)
        (and_from (not t.full) (ltb t.worked (length t.rows)) (not_from_false t.full free) (lt-ltb t.worked (length t.rows) more))

pub search_laws : SearchLaws
search_laws = record {
  opens = opened_sound;
  digs = dug_sound;
  tells = search_tells;
  judges = verdict_means;
  ends = dug_ends;
  works_all = dug_works_all;
  rests = dug_rests;
  keeps = λ X places k s. (dug_counts X places k s).0;
  allows = λ X places k s. (dug_counts X places k s).1;
  finishes = λ X places k s busy. let most = dug_counts X places k s in let all = dug_all X places k s busy in omega arith;
  links = links_sound;
  shows = λ X places s h. told_shows X places s (search_tells X places s h);
  adds = dug_adds;
  stays = trace_stays;
  fits = links_fit;
  agrees = links_agree;
}
