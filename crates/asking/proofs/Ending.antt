-- The end of a search: where nothing is left to work, nothing is until a link is accepted.
use Rattle.std.proofs.Common.{◌≡◌, ℕ, ◌+◌, ◌≤◌, false, List, [], ◌∷◌, ◌++◌, length, sym, ap, ◌∙◌, subst, length-append, arith}
use Rattle.std.proofs.lemmas.Bool.{both_ways}
use Rattle.std.proofs.lemmas.List.{nil_from_length}
use Rattle.model.specs.declared.Edge.{Edge}
use Rattle.model.specs.declared.Verdict.TheVariants.{Unfinished}
use Rattle.model.specs.Tables.{pending}
use Rattle.model.proofs.Verdicts.{search_laws}
use Rattle.inquiry.specs.Calls.{answered, unless}
use Rattle.inquiry.specs.declared.requests.Request.{Request}
use Rattle.inquiry.specs.declared.requests.Request.TheVariants.{Dig, Link, Verdict, Trace}
use Rattle.inquiry.specs.declared.requests.Reply.TheVariants.{Linked}
use Rattle.inquiry.specs.Histories.{Opened, with_table, Standing, begun, may_link, answer, step, after_from, replies_from, accepted_one, accepted, after, links}
use Rattle.asking.specs.Law.{Says}
use Rattle.inquiry.proofs.Allowed.{by_allowed}
use Rattle.inquiry.proofs.Allowing.{linked_at}
use Rattle.inquiry.proofs.Going.{after_more, accepted_more}
use Rattle.asking.proofs.Judging.{pending_if_unfinished, said}
use Rattle.asking.proofs.Keeping.{keeps}

-- of two lists that make an empty one each is empty
none_left : (xs ys : List Edge) → xs ++ ys ≡ [] → (xs ≡ []) × (ys ≡ [])
none_left xs ys none =
    let n = length-append xs ys in
    let m = ap length none in
    (nil_from_length xs (omega arith), nil_from_length ys (omega arith))

module _ (C : Opened) where
  -- where nothing is left to work, and a request is no accepted link, nothing is left after it
  step_rests : (s : Standing) (r : Request) → pending s.search ≡ false → accepted_one r (answer C s r) ≡ [] → pending (step C s r).search ≡ false
  step_rests s (Dig allowed) rest none = ap pending (search_laws.rests (with_table C s.edges) C.places allowed s.search rest) ∙ rest
  step_rests s (Link from to) rest none =
      by_allowed (λ o. accepted_one (Link from to) (answered o (Linked (length s.edges + 1))) ≡ [] → pending (unless o (linked_at C s (record { from = from; to = to })) s).search ≡ false) (may_link C s from to) (λ one. absurd (let n = ap length one in omega arith)) (λ why _. rest) none
  step_rests s Verdict rest none = rest
  step_rests s (Trace room) rest none = rest

  -- and the same of many
  from_rests : (s : Standing) (rs : List Request) → pending s.search ≡ false → accepted rs (replies_from C s rs) ≡ [] → pending (after_from C s rs).search ≡ false
  unfolding after_from replies_from accepted
  from_rests s [] rest none = rest
  from_rests s (r ∷ rs) rest none =
      let parts = none_left (accepted_one r (answer C s r)) (accepted rs (replies_from C (step C s r) rs)) none in
      from_rests (step C s r) rs (step_rests s r rest parts.0) parts.1

  -- so a dig of as many facts as there are places leaves nothing unfinished, however it goes on without an accepted link
  pub dig_ends : (rs ss : List Request) (k : ℕ) → C.places ≤ k → links C (rs ++ Dig k ∷ ss) ≡ links C rs → Says C (rs ++ Dig k ∷ ss) Unfinished → ⊥
  unfolding after_from replies_from accepted
  dig_ends rs ss k enough same says =
      let s = after C rs in
      let t = step C s (Dig k) in
      let more = accepted ss (replies_from C t ss) in
      let parts : links C rs ++ more ≡ links C rs = sym (accepted_more C (begun C) rs (Dig k ∷ ss)) ∙ same in
      let n = length-append (links C rs) more in
      let m = ap length parts in
      let rest = from_rests t ss (search_laws.works_all (with_table C s.edges) C.places k s.search (keeps C rs).sound enough) (nil_from_length more (omega arith)) in
      let now = subst (λ (u : Standing). pending u.search ≡ false) (sym (after_more C (begun C) rs (Dig k ∷ ss))) rest in
      both_ways (pending (after C (rs ++ Dig k ∷ ss)).search) now (pending_if_unfinished C.watch (after C (rs ++ Dig k ∷ ss)).search (said C (rs ++ Dig k ∷ ss) Unfinished says))
