-- The first bad row: where there is one its trace is that of a bad run, and rows that are added behind change neither.
use Rattle.std.proofs.Common.{◌≡◌, ℕ, suc, ◌<◌, true, false, cond, ◌||◌, ◌⊎◌, List, [], ◌∷◌, ◌++◌, length, reverse, sym, refl, ap, ◌∙◌, subst, inl, inr, arith}
use Rattle.std.proofs.lemmas.List.{reverse-reverse}
use Rattle.std.proofs.lemmas.Bool.{both_ways, or_cases, or_left, or_right, cond_both, cases_Bool}
use Rattle.model.specs.declared.Fact.{Fact}
use Rattle.model.specs.Facts.{Setting, RunIn, frame_of}
use Rattle.model.specs.Searches.{Told, BadTrace, trace_at, first_trace}
use Rattle.model.specs.Tables.{Search, row_at, end_of, any_bad, first_bad, Tale, tale_at}
use Rattle.model.specs.Watches.{Watch}
use Rattle.model.proofs.Summaries.{reach}
use Rattle.model.proofs.Tales.{tale_stays}

-- where a row is bad, the first one is
pub first_is_bad : (W : Watch) (rows : List Fact) → any_bad W rows ≡ true → (first_bad W rows < length rows) × (W.bad (row_at rows (first_bad W rows)).state ≡ true)
unfolding any_bad first_bad
first_is_bad W [] h = absurd (both_ways false refl h)
first_is_bad W (r ∷ rows) h =
    cond_both (W.bad r.state) 0 (suc (first_bad W rows)) (λ i. (i < suc (length rows)) × (W.bad (row_at (r ∷ rows) i).state ≡ true))
    (λ bad. (omega arith, bad)) (λ good. let p = first_is_bad W rows (subst (λ b. (b || any_bad W rows) ≡ true) good h) in (omega (arith, p.0), p.1))

-- and its trace is that of a run that leaves the watch bad
pub told_shows : (X : Setting) (places : ℕ) (s : Search) → Told X places s → any_bad X.watch s.rows ≡ true → BadTrace X (first_trace X.watch s.rows)
told_shows X places s told h =
    let i = first_bad X.watch s.rows in
    let t = tale_at s.rows i in
    let p = first_is_bad X.watch s.rows h in
    let run = reach X (told.yielded i p.0) in
    (_, _, subst (λ ns. RunIn X ns (frame_of (end_of (row_at s.rows i)) ∷ run.0) (row_at s.rows i).state) (sym (reverse-reverse (t.stretch ++ t.below))) run.1, p.1)

-- with more rows behind them some row is bad still
bad_stays : (W : Watch) (rows more : List Fact) → any_bad W rows ≡ true → any_bad W (rows ++ more) ≡ true
unfolding any_bad
bad_stays W [] more h = absurd (both_ways false refl h)
bad_stays W (r ∷ rows) more h = by (bad_stays W rows more) (or_cases (W.bad r.state) (any_bad W rows) h)
  where
    by : (any_bad W rows ≡ true → any_bad W (rows ++ more) ≡ true) → (W.bad r.state ≡ true) ⊎ (any_bad W rows ≡ true) → (W.bad r.state || any_bad W (rows ++ more)) ≡ true
    by later (inl here) = or_left (W.bad r.state) (any_bad W (rows ++ more)) here
    by later (inr h) = or_right (W.bad r.state) (any_bad W (rows ++ more)) (later h)

-- the first bad row is the same
first_stays : (W : Watch) (rows more : List Fact) → any_bad W rows ≡ true → first_bad W (rows ++ more) ≡ first_bad W rows
unfolding any_bad first_bad
first_stays W [] more h = absurd (both_ways false refl h)
first_stays W (r ∷ rows) more h = by (cases_Bool (W.bad r.state)) (first_stays W rows more)
  where
    by : (W.bad r.state ≡ true) ⊎ (W.bad r.state ≡ false) → (any_bad W rows ≡ true → first_bad W (rows ++ more) ≡ first_bad W rows) → cond (W.bad r.state) 0 (suc (first_bad W (rows ++ more))) ≡ cond (W.bad r.state) 0 (suc (first_bad W rows))
    by (inl bad) later = rw bad
    by (inr good) later = rw good (ap suc (later (subst (λ b. (b || any_bad W rows) ≡ true) good h)))

-- and so is its trace
pub trace_stays : (W : Watch) (rows more : List Fact) → any_bad W rows ≡ true → (any_bad W (rows ++ more) ≡ true) × (first_trace W (rows ++ more) ≡ first_trace W rows)
trace_stays W rows more h = (
  bad_stays W rows more h,
  ap (trace_at (rows ++ more)) (first_stays W rows more h) ∙ ap (λ (t : Tale). reverse (t.stretch ++ t.below)) (tale_stays rows more (first_bad W rows) (first_is_bad W rows h).0),
)
