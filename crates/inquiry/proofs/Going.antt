-- Requests one after another: where they lead, what they are answered and which links were accepted, of some requests and then others.
use Rattle.std.proofs.Common.{◌≡◌, ℕ, zero, suc, ◌+◌, true, false, ◌⊎◌, List, [], ◌∷◌, ◌++◌, length, Err, sym, refl, ap, ◌∙◌, inl, inr, arith, append_assoc}
use Rattle.std.proofs.lemmas.Bool.{cond-true, cases_Bool}
use Rattle.model.specs.Facts.{Setting}
use Rattle.model.specs.Tables.{Search, work, pending, dug}
use Rattle.model.proofs.Verdicts.{search_laws}
use Rattle.recipe.specs.declared.grounds.Refusal.{Refusal}
use Rattle.inquiry.specs.Calls.{answered, unless}
use Rattle.inquiry.specs.declared.requests.Request.{Request}
use Rattle.inquiry.specs.declared.requests.Request.TheVariants.{Dig, Link, Verdict, Trace}
use Rattle.inquiry.specs.declared.requests.Reply.TheVariants.{Linked}
use Rattle.inquiry.specs.Histories.{Opened, Standing, with_table, begun, may_link, answer, step, output_by, after_from, output_from, replies_from, accepted_one, accepted, after, asked, replies}
use Rattle.inquiry.proofs.Allowed.{by_allowed}
use Rattle.inquiry.proofs.Allowing.{linked_at}

-- a dig and then another come to what one dig of both comes to
dug_more : (X : Setting) (places j k : ℕ) (s : Search) → dug X places k (dug X places j s) ≡ dug X places (j + k) s
unfolding dug
dug_more X places zero k s = let none : k ≡ 0 + k = omega arith in ap (λ n. dug X places n s) none
dug_more X places (suc j) k s =
    let sum : suc (j + k) ≡ suc j + k = omega arith in
    by (cases_Bool (pending s)) (dug_more X places j k (work X places s)) ∙ ap (λ n. dug X places n s) sum
  where
    by : (pending s ≡ true) ⊎ (pending s ≡ false) → dug X places k (dug X places j (work X places s)) ≡ dug X places (j + k) (work X places s) → dug X places k (dug X places (suc j) s) ≡ dug X places (suc (j + k)) s
    by (inl some) rest =
        ap (dug X places k) (cond-true (pending s) (dug X places j (work X places s)) s some) ∙ rest ∙ sym (cond-true (pending s) (dug X places (j + k) (work X places s)) s some)
    by (inr none) rest = ap (dug X places k) (search_laws.rests X places (suc j) s none) ∙ search_laws.rests X places k s none ∙ sym (search_laws.rests X places (suc (j + k)) s none)

module _ (C : Opened) where
  -- some requests and then others lead to where the others lead from where the first lead
  pub after_more : (s : Standing) (rs ss : List Request) → after_from C s (rs ++ ss) ≡ after_from C (after_from C s rs) ss
  unfolding after_from
  after_more s [] ss = refl
  after_more s (r ∷ rs) ss = after_more (step C s r) rs ss

  -- and are answered as the first, and then as the others from there
  pub replies_more : (s : Standing) (rs ss : List Request) → replies_from C s (rs ++ ss) ≡ replies_from C s rs ++ replies_from C (after_from C s rs) ss
  unfolding after_from replies_from
  replies_more s [] ss = refl
  replies_more s (r ∷ rs) ss = ap (λ answers. answer C s r ∷ answers) (replies_more (step C s r) rs ss)

  -- so the record has the answer of each request after those before it
  pub record_grows : (rs : List Request) (r : Request) → replies C (rs ++ r ∷ []) ≡ replies C rs ++ asked C rs r ∷ []
  unfolding replies_from
  record_grows rs r = replies_more (begun C) rs (r ∷ [])

  -- the links accepted of some requests and then others are those of the first, and then those of the others from there
  pub accepted_more : (s : Standing) (rs ss : List Request) → accepted (rs ++ ss) (replies_from C s (rs ++ ss)) ≡ accepted rs (replies_from C s rs) ++ accepted ss (replies_from C (after_from C s rs) ss)
  unfolding after_from replies_from accepted
  accepted_more s [] ss = refl
  accepted_more s (r ∷ rs) ss =
      let one = accepted_one r (answer C s r) in
      ap (λ es. one ++ es) (accepted_more (step C s r) rs ss)
      ∙ sym (append_assoc one (accepted rs (replies_from C (step C s r) rs)) (accepted ss (replies_from C (after_from C (step C s r) rs) ss)))

  -- and an output holds what it does after the others, from what it held after the first
  pub output_more : (s : Standing) (rs ss : List Request) (out : List ℕ) → output_from C s (rs ++ ss) out ≡ output_from C (after_from C s rs) ss (output_from C s rs out)
  unfolding after_from output_from
  output_more s [] ss out = refl
  output_more s (r ∷ rs) ss out = output_more (step C s r) rs ss (output_by C s r out)

  -- some requests and one more lead one step further
  pub after_one : (rs : List Request) (r : Request) → after C (rs ++ r ∷ []) ≡ step C (after C rs) r
  unfolding after_from
  after_one rs r = after_more (begun C) rs (r ∷ [])

  -- a request that is refused leads nowhere
  step_refused : (s : Standing) (r : Request) (why : Refusal) → answer C s r ≡ Err why → step C s r ≡ s
  step_refused s (Dig allowed) why e = absurd (let z : ◌≡◌ {A = ℕ} 0 1 = cc in omega arith)
  step_refused s (Link from to) why e =
      by_allowed (λ o. answered o (Linked (length s.edges + 1)) ≡ Err why → unless o (linked_at C s (record { from = from; to = to })) s ≡ s) (may_link C s from to)
      (λ h. absurd (let z : ◌≡◌ {A = ℕ} 0 1 = cc in omega arith)) (λ _ _. refl) e
  step_refused s Verdict why e = refl
  step_refused s (Trace room) why e = refl

  -- so after it everything is as it was
  pub refused_rests : (rs : List Request) (r : Request) (why : Refusal) → asked C rs r ≡ Err why → after C (rs ++ r ∷ []) ≡ after C rs
  refused_rests rs r why e = after_one rs r ∙ step_refused (after C rs) r why e

  -- digs in pieces lead to where one dig leads
  pub dug_pieces : (rs : List Request) (j k : ℕ) → after C (rs ++ Dig j ∷ Dig k ∷ []) ≡ after C (rs ++ Dig (j + k) ∷ [])
  unfolding after_from
  dug_pieces rs j k =
      let s = after C rs in
      after_more (begun C) rs (Dig j ∷ Dig k ∷ []) ∙ ap (λ (u : Search). record { edges = s.edges; search = u }) (dug_more (with_table C s.edges) C.places j k s.search)
      ∙ sym (after_one rs (Dig (j + k)))
