-- Facts that are worked, and a table that is full: what a dig is answered, how many facts are worked, and that a full table stays full.
use Rattle.std.proofs.Common.{◌≡◌, ℕ, ◌+◌, ◌-◌, ◌<◌, ◌≤◌, true, false, not, ◌&&◌, ltb, ◌⊎◌, List, [], ◌∷◌, ◌++◌, length, Ok, sym, refl, ap, ◌∙◌, subst, inl, inr, ⊎_elim, arith}
use Rattle.std.proofs.lemmas.Bool.{both_ways, cases_Bool, cases_lt, and_from, not_from_false, false_from_ne_true, lt-ltb}
use Rattle.std.proofs.lemmas.List.{length-map}
use Rattle.model.specs.Tables.{Search, empty, firsts, opened, pending, start_of, end_of}
use Rattle.model.proofs.Held.{offers_worked}
use Rattle.model.proofs.Verdicts.{search_laws}
use Rattle.inquiry.specs.Calls.{answered, unless, dug_from, trace_length}
use Rattle.inquiry.specs.declared.reports.Dug.{Dug as Finished}
use Rattle.inquiry.specs.declared.requests.Reply.TheVariants.{Dug, Linked, Traced}
use Rattle.inquiry.specs.declared.requests.Request.{Request}
use Rattle.inquiry.specs.declared.requests.Request.TheVariants.{Dig, Link, Verdict, Trace}
use Rattle.inquiry.specs.Histories.{Opened, with_table, Standing, begun, may_link, may_trace, dug_at, answer, step, after_from, after, asked, replies_from, replies}
use Rattle.inquiry.specs.Grounds.{DigAnswer}
use Rattle.inquiry.proofs.Grounds.{answer_laws}
use Rattle.asking.specs.Law.{is_full, facts_after, finished_by, finished_in}
use Rattle.inquiry.proofs.Allowed.{by_allowed}
use Rattle.inquiry.proofs.Allowing.{linked_at}
use Rattle.inquiry.proofs.Going.{after_more, after_one}
use Rattle.asking.proofs.Keeping.{keeps}

-- a full search has nothing that is to be worked
full_rests : (s : Search) → s.full ≡ true → pending s ≡ false
full_rests s full = ap (λ b. not b && ltb s.worked (length s.rows)) full

module _ (C : Opened) where
  -- as many facts are worked after a request as its answer tells
  step_worked : (s : Standing) (r : Request) → (step C s r).search.worked ≡ finished_by s.search.worked (answer C s r)
  step_worked s (Dig k) = let more = search_laws.keeps (with_table C s.edges) C.places k s.search in omega arith
  step_worked s (Link from to) =
      by_allowed (λ o. (unless o (linked_at C s (record { from = from; to = to })) s).search.worked ≡ finished_by s.search.worked (answered o (Linked (length s.edges + 1)))) (may_link C s from to) refl (λ why. refl)
  step_worked s Verdict = refl
  step_worked s (Trace room) = by_allowed (λ o. s.search.worked ≡ finished_by s.search.worked (answered o (Traced (trace_length C.watch s.search)))) (may_trace C s room) refl (λ why. refl)

  -- and after many
  from_worked : (s : Standing) (rs : List Request) → (after_from C s rs).search.worked ≡ finished_in s.search.worked (replies_from C s rs)
  unfolding after_from replies_from finished_in
  from_worked s [] = refl
  from_worked s (r ∷ rs) = from_worked (step C s r) rs ∙ ap (λ n. finished_in n (replies_from C (step C s r) rs)) (step_worked s r)

  -- from none at the opening
  pub worked_told : (rs : List Request) → (after C rs).search.worked ≡ finished_in 0 (replies C rs)
  unfolding opened
  worked_told rs = from_worked (begun C) rs ∙ ap (λ n. finished_in n (replies C rs)) (offers_worked C.places empty (firsts (with_table C C.own)))

  -- a request leaves a full search full
  step_full : (s : Standing) (r : Request) → s.search.full ≡ true → (step C s r).search.full ≡ true
  step_full s (Dig k) full = ap (λ (t : Search). t.full) (search_laws.rests (with_table C s.edges) C.places k s.search (full_rests s.search full)) ∙ full
  step_full s (Link from to) full =
      by_allowed (λ o. (unless o (linked_at C s (record { from = from; to = to })) s).search.full ≡ true) (may_link C s from to) full (λ why. full)
  step_full s Verdict full = full
  step_full s (Trace room) full = full

  from_full : (s : Standing) (rs : List Request) → s.search.full ≡ true → (after_from C s rs).search.full ≡ true
  unfolding after_from
  from_full s [] full = full
  from_full s (r ∷ rs) full = from_full (step C s r) rs (step_full s r full)

  -- each place of a full one is in use, from then on
  full_stays : (rs ss : List Request) → is_full C rs ≡ true → is_full C (rs ++ ss) ≡ true
  full_stays rs ss full = ap (λ (s : Standing). s.search.full) (after_more C (begun C) rs ss) ∙ from_full (after C rs) ss full

  facts_count : (rs : List Request) → length (facts_after C rs) ≡ length (after C rs).search.rows
  facts_count rs = length-map (after C rs).search.rows (λ r. (start_of r, end_of r))

  pub stays_filled : (rs ss : List Request) → is_full C rs ≡ true → (is_full C (rs ++ ss) ≡ true) × (length (facts_after C (rs ++ ss)) ≡ C.places)
  stays_filled rs ss full = let still = full_stays rs ss full in (still, facts_count (rs ++ ss) ∙ ((keeps C (rs ++ ss)).sound.beyond still).0)

  -- what a dig is answered
  pub dig_answered : (rs : List Request) (k : ℕ) → (d : Finished) × (asked C rs (Dig k) ≡ Ok (Dug d)) × DigAnswer k (after C rs).search (after C (rs ++ Dig k ∷ [])).search d
  dig_answered rs k =
      let s = after C rs in
      let d = dug_from s.search (dug_at C s k) in
      (d, refl, subst (λ (u : Standing). DigAnswer k s.search u.search d) (sym (after_one C rs (Dig k))) (answer_laws.digs (with_table C s.edges) C.places k s.search))
