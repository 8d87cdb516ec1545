-- The worked cases. Of recipe A both searches are computed, and a search that is through holds all that is yielded.
use Rattle.std.proofs.Common.{◌≡◌, ℕ, ◌<◌, false, [], ◌∷◌, length, sym, refl, ap, ◌∙◌, subst, ap₂, arith}
use Rattle.std.proofs.lemmas.List.{length-map}
use Rattle.std.proofs.lemmas.Bool.{both_ways}
use Rattle.model.specs.declared.Point.{Point}
use Rattle.model.specs.Facts.{Setting, Yields, FactIsBad}
use Rattle.model.specs.Program.{home}
use Rattle.model.specs.RecipeA.{history_a, stack_a}
use Rattle.model.specs.Searches.{Through, Told, HeldAt, fact_in, trace_at, facts_of}
use Rattle.model.specs.Tables.{is_held, targets, each_of, offers, Search, offer, offer_all, opened, work, dug, any_bad, first_bad, tales_after, tale_at}
use Rattle.model.specs.Worked.{YieldsExactly, history_rows, stack_rows, Worked}
use Rattle.model.proofs.Searching.{opened_sound, dug_sound}
use Rattle.model.proofs.Telling.{fact_of, fact_in_lem, search_tells}
use Rattle.model.proofs.Verdicts.{none_bad}

module _ (X : Setting) (places : ℕ) (s : Search) (told : Told X places s) where
  -- what is held at a place has its fact there
  pub held_fact : (i : ℕ) (a x : Point) → i < length s.rows → fact_in (facts_of s.rows) i ≡ (a, x) → HeldAt s.rows a x i
  held_fact i a x lt e = let h = sym (fact_in_lem s.rows i lt) ∙ e in (lt, ap (λ (p : Point × Point). p.0) h, ap (λ (p : Point × Point). p.1) h)

  -- a search that is through holds exactly the facts that are yielded
  pub through_exact : Through s → YieldsExactly X (length s.rows)
  through_exact through =
      let count = length-map s.rows fact_of in (
        facts_of s.rows,
        count,
        record {
          yielded = λ i lt.
              let k : i < length s.rows = omega arith in
              subst (λ (p : Point × Point). Yields X p.0 p.1) (sym (fact_in_lem s.rows i k)) (_, _, told.yielded i k);
          apart = λ i j lt le e.
              let k : j < length s.rows = omega arith in
              let l : i < length s.rows = omega arith in
              let f = fact_in (facts_of s.rows) j in
              let same = told.once i j f.0 f.1 (held_fact i f.0 f.1 l e) (held_fact j f.0 f.1 k refl) in
              omega arith;
        },
        λ a x y.
            let h = told.exact through a x y in
            (h.0, omega arith, fact_in_lem s.rows h.0 h.1.0 ∙ ap₂ (λ (p q : Point). (p, q)) h.1.1 h.1.2),
      )

  -- and if it holds no bad fact, none is yielded
  pub through_good : Through s → any_bad X.watch s.rows ≡ false → FactIsBad X → ⊥
  through_good through none bad =
      let h = told.exact through bad.0 bad.1 bad.2 in
      both_ways (X.watch.bad bad.1.state) (ap (λ (p : Point). X.watch.bad p.state) (sym h.1.2) ∙ none_bad X.watch s.rows h.0 none h.1.0) bad.3

-- both searches, through
abbrev pub history_end : Search
history_end = record { rows = history_rows; worked = 4; full = false }

abbrev pub stack_end : Search
stack_end = record { rows = stack_rows; worked = 7; full = false }

pub history_search : dug history_a 4 4 (opened history_a 4) ≡ history_end
unfolding home is_held targets each_of offers offer offer_all opened work dug
history_search = refl

pub stack_search : dug stack_a 7 7 (opened stack_a 7) ≡ stack_end
unfolding home is_held targets each_of offers offer offer_all opened work dug
stack_search = refl

pub history_none : any_bad history_a.watch history_end.rows ≡ false
unfolding any_bad
history_none = refl

pub stack_first : trace_at stack_end.rows (first_bad stack_a.watch stack_end.rows) ≡ 0 ∷ 3 ∷ 1 ∷ 4 ∷ 5 ∷ []
unfolding first_bad tales_after tale_at
stack_first = refl

-- what a search from its opening on tells
dug_told : (X : Setting) (places k : ℕ) → Told X places (dug X places k (opened X places))
dug_told X places k = search_tells X places (dug X places k (opened X places)) (dug_sound X places k (opened X places) (opened_sound X places))

history_told : Told history_a 4 history_end
history_told = subst (Told history_a 4) history_search (dug_told history_a 4 4)

stack_told : Told stack_a 7 stack_end
stack_told = subst (Told stack_a 7) stack_search (dug_told stack_a 7 7)

pub worked_cases : Worked
worked_cases = record {
  history_enters = refl;
  history_accepts = refl;
  history_comes_back = refl;
  stack_privileged = refl;
  stack_plain = refl;
  wall_second = refl;
  wall_not_yet = refl;
  wall_both = refl;
  wall_bad = refl;
  history_table = ap (λ (s : Search). s.rows) history_search;
  stack_table = ap (λ (s : Search). s.rows) stack_search;
  history_facts = through_exact history_a 4 history_end history_told (refl, omega arith);
  history_good = through_good history_a 4 history_end history_told (refl, omega arith) history_none;
  stack_facts = through_exact stack_a 7 stack_end stack_told (refl, omega arith);
  stack_trace = ap (λ (s : Search). trace_at s.rows (first_bad stack_a.watch s.rows)) stack_search ∙ stack_first;
}
