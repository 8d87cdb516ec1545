-- What lasts: rows are only added, so a bad one stays, and the trace of the first one stays the same.
use Rattle.std.proofs.Common.{◌≡◌, true, List, [], ◌∷◌, ◌++◌, sym, ap, ◌∙◌, subst, append_assoc, append-nil}
use Rattle.model.specs.declared.Fact.{Fact}
use Rattle.model.specs.Searches.{first_trace}
use Rattle.model.specs.Tables.{any_bad}
use Rattle.model.proofs.Verdicts.{search_laws}
use Rattle.inquiry.specs.Calls.{unless}
use Rattle.inquiry.specs.declared.requests.Request.{Request}
use Rattle.inquiry.specs.declared.requests.Request.TheVariants.{Dig, Link, Verdict, Trace}
use Rattle.inquiry.specs.Histories.{Opened, with_table, Standing, begun, may_link, step, after_from, after}
use Rattle.inquiry.proofs.Allowed.{by_allowed}
use Rattle.inquiry.proofs.Allowing.{linked_at}
use Rattle.inquiry.proofs.Going.{after_more}

-- the rows of one standing are those of another, with more behind them
abbrev Grown : Standing → Standing → Type 0
Grown s t = (more : List Fact) × (t.search.rows ≡ s.search.rows ++ more)

module _ (C : Opened) where
  -- the same rows are
  same_grown : (s : Standing) → Grown s s
  same_grown s = ([], sym (append-nil s.search.rows))

  -- a request only adds rows
  step_grows : (s : Standing) (r : Request) → Grown s (step C s r)
  step_grows s (Dig allowed) = search_laws.adds (with_table C s.edges) C.places allowed s.search
  step_grows s (Link from to) =
      by_allowed (λ o. Grown s (unless o (linked_at C s (record { from = from; to = to })) s)) (may_link C s from to) (same_grown s) (λ why. same_grown s)
  step_grows s Verdict = same_grown s
  step_grows s (Trace room) = same_grown s

  -- and so do many
  from_grows : (s : Standing) (rs : List Request) → Grown s (after_from C s rs)
  unfolding after_from
  from_grows s [] = same_grown s
  from_grows s (r ∷ rs) =
      let one = step_grows s r in
      let rest = from_grows (step C s r) rs in
      (one.0 ++ rest.0, rest.1 ∙ ap (λ rows. rows ++ rest.0) one.1 ∙ append_assoc s.search.rows one.0 rest.0)

  -- so where a row is bad one is from then on, and the trace of the first one is the same
  pub bad_lasts : (rs ss : List Request) → any_bad C.watch (after C rs).search.rows ≡ true
      → (any_bad C.watch (after C (rs ++ ss)).search.rows ≡ true) × (first_trace C.watch (after C (rs ++ ss)).search.rows ≡ first_trace C.watch (after C rs).search.rows)
  bad_lasts rs ss bad =
      let grown = from_grows (after C rs) ss in
      subst (λ rows. (any_bad C.watch rows ≡ true) × (first_trace C.watch rows ≡ first_trace C.watch (after C rs).search.rows)) (sym (ap (λ (s : Standing). s.search.rows) (after_more C (begun C) rs ss) ∙ grown.1))
      (search_laws.stays C.watch (after C rs).search.rows grown.0 bad)
