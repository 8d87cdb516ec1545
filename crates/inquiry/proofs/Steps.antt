-- Steps of a search in its table: what a worked fact offers, when it is finished, and a dig of one fact more.
use Rattle.std.proofs.Common.{◌≡◌, ℕ, zero, suc, ◌+◌, ◌<◌, ◌≤◌, Bool, true, false, cond, not, ltb, [], length, sym, refl, ap, ◌∙◌, arith}
use Rattle.std.proofs.lemmas.List.{length-take-le}
use Rattle.std.proofs.lemmas.Bool.{cond-true, cond-false, cond_both, and_from, and_left, and_right, not_from_true, not_from_false, lt-ltb, le-ltb}
use Rattle.model.specs.declared.Fact.{Fact}
use Rattle.model.specs.declared.Kind.TheVariants.{Call, Check, Return}
use Rattle.model.specs.Facts.{Setting, kind_at}
use Rattle.model.specs.Tables.{Search, row_at, end_of, each_from, joins, backs, enters, follows, return_at, call_at, offers_by, offers, offer_all, finish, work, pending, dug}
use Rattle.model.proofs.Held.{offers_nil, offers_append, offers_worked}
use Rattle.inquiry.specs.declared.Inquiry.{Inquiry}
use Rattle.inquiry.specs.Inquiries.{state_of, Grown}
use Rattle.inquiry.proofs.Growing.{search_is, grown_same, grown_row, each_same}
use Rattle.inquiry.proofs.Looking.{rows_fit}

-- a check that is not passed offers nothing
pub not_passed : (X : Setting) (t : Inquiry) (i : ℕ) (f : Fact) (required : ℕ) → kind_at X (end_of f) ≡ Check required → X.rule.pass f.value f.node ≡ false
    → state_of t ≡ offer_all t.places (state_of t) (offers_by X (state_of t).rows i f (kind_at X (end_of f)))
not_passed X t i f required kind fails =
    sym (ap (λ k. offer_all t.places (state_of t) (offers_by X (state_of t).rows i f k)) kind
    ∙ ap (offer_all t.places (state_of t)) (cond-false (X.rule.pass f.value f.node) (follows X i f) [] fails) ∙ offers_nil t.places (state_of t))

-- a return that comes back to no call offers nothing
pub returns_nowhere : (X : Setting) (t : Inquiry) (i : ℕ) (f : Fact) → kind_at X (end_of f) ≡ Return → each_from 0 i (call_at X (state_of t).rows i f) ≡ []
    → state_of t ≡ offer_all t.places (state_of t) (offers_by X (state_of t).rows i f (kind_at X (end_of f)))
returns_nowhere X t i f kind none =
    sym (ap (λ k. offer_all t.places (state_of t) (offers_by X (state_of t).rows i f k)) kind
    ∙ ap (offer_all t.places (state_of t)) none ∙ offers_nil t.places (state_of t))

-- the return facts before a call are the same after the table has grown
returns_same : (X : Setting) {b e : Inquiry} → Grown b e → (i : ℕ) (f : Fact) → i ≤ b.held → each_from 0 i (return_at X (state_of e).rows i f) ≡ each_from 0 i (return_at X (state_of b).rows i f)
returns_same X {b} {e} g i f le =
    each_same 0 i (return_at X (state_of e).rows i f) (return_at X (state_of b).rows i f)
    (λ k lt. let more = g.more in ap (λ r. cond (joins X f r) (backs X i f k r) []) (grown_row (grown_same e) k (omega arith) ∙ sym (grown_row g k (omega arith))))

-- a call offers the entries of its callee, and then what the return facts before it give
pub called : (X : Setting) {b e : Inquiry} (t : Inquiry) (i : ℕ) (f : Fact) (callee grant accept : ℕ) {privileged : Bool} → i ≤ b.held → kind_at X (end_of f) ≡ Call callee grant accept privileged
    → state_of e ≡ offer_all b.places (state_of b) (enters X callee i f) → Grown b e
    → state_of t ≡ offer_all e.places (state_of e) (each_from 0 i (return_at X (state_of e).rows i f))
    → state_of t ≡ offer_all b.places (state_of b) (offers_by X (state_of b).rows i f (kind_at X (end_of f)))
called X {b} {e} t i f callee grant accept le kind entered g joined =
    joined ∙ ap (offer_all e.places (state_of e)) (returns_same X g i f le)
    ∙ ap (λ n. offer_all n (state_of e) (each_from 0 i (return_at X (state_of b).rows i f))) g.places
    ∙ ap (λ s. offer_all b.places s (each_from 0 i (return_at X (state_of b).rows i f))) entered
    ∙ sym (offers_append b.places (state_of b) (enters X callee i f) (each_from 0 i (return_at X (state_of b).rows i f)))
    ∙ sym (ap (λ k. offer_all b.places (state_of b) (offers_by X (state_of b).rows i f k)) kind)

-- a call that no return fact before it comes back to offers the entries of its callee alone
pub called_alone : (X : Setting) {b e : Inquiry} (i : ℕ) (f : Fact) (callee grant accept : ℕ) {privileged : Bool} → i ≤ b.held → kind_at X (end_of f) ≡ Call callee grant accept privileged
    → state_of e ≡ offer_all b.places (state_of b) (enters X callee i f) → Grown b e → each_from 0 i (return_at X (state_of b).rows i f) ≡ []
    → state_of e ≡ offer_all b.places (state_of b) (offers_by X (state_of b).rows i f (kind_at X (end_of f)))
called_alone X {b} {e} i f callee grant accept le kind entered g none =
    called X e i f callee grant accept le kind entered g
    (sym (ap (offer_all e.places (state_of e)) (returns_same X g i f le ∙ none) ∙ offers_nil e.places (state_of e)))

-- what the first unworked row offers
offers_is : (X : Setting) (b : Inquiry) → b.worked < b.held → offers_by X (state_of b).rows b.worked (row_at b.facts.now b.worked) (kind_at X (end_of (row_at b.facts.now b.worked))) ≡ offers X (state_of b).rows b.worked
unfolding offers
offers_is X b lt = ap (λ f. offers_by X (state_of b).rows b.worked f (kind_at X (end_of f))) (sym (grown_row (grown_same b) b.worked lt))

module _ (X : Setting) (b a : Inquiry) (lt : b.worked < b.held)
    (applied : state_of a ≡ offer_all b.places (state_of b) (offers_by X (state_of b).rows b.worked (row_at b.facts.now b.worked) (kind_at X (end_of (row_at b.facts.now b.worked))))) where
  works : finish (state_of a) ≡ work X b.places (state_of b)
  unfolding work
  works = ap finish (applied ∙ ap (offer_all b.places (state_of b)) (offers_is X b lt))

  -- working a fact counts no other as worked
  pub still : a.worked ≡ b.worked
  still = ap (λ (s : Search). s.worked) applied ∙ offers_worked b.places (state_of b) (offers_by X (state_of b).rows b.worked (row_at b.facts.now b.worked) (kind_at X (end_of (row_at b.facts.now b.worked))))

  -- it is finished unless the table turned full
  pub finished : a.full ≡ false → ◌≡◌ {A = Search} (record { rows = (state_of a).rows; worked = b.worked + 1; full = a.full }) (work X b.places (state_of b))
  finished free = search_is refl (ap (λ n. n + 1) (sym still)) refl ∙ sym (cond-false a.full (state_of a) (record { rows = (state_of a).rows; worked = a.worked + 1; full = a.full }) free) ∙ works

  pub unfinished : a.full ≡ true → state_of a ≡ work X b.places (state_of b)
  unfinished full = sym (cond-true a.full (state_of a) (record { rows = (state_of a).rows; worked = a.worked + 1; full = a.full }) full) ∙ works

-- a dig of nothing, and of one fact more
module _ (X : Setting) (places : ℕ) (s : Search) where
  pub dug_none : (k : ℕ) → k ≡ 0 → dug X places k s ≡ s
  unfolding dug
  dug_none k e = ap (λ n. dug X places n s) e

  pub dug_more : (k j : ℕ) → k ≡ suc j → pending s ≡ true → dug X places k s ≡ dug X places j (work X places s)
  unfolding dug
  dug_more k j e more = ap (λ n. dug X places n s) e ∙ cond-true (pending s) (dug X places j (work X places s)) s more

-- a table's search has nothing to work if it is full, or all is worked, and else has
pub idle_full : (t : Inquiry) → t.full ≡ true → pending (state_of t) ≡ false
idle_full t full = and_left (not t.full) (ltb t.worked (length (state_of t).rows)) (not_from_true t.full full)

pub idle_worked : (t : Inquiry) → t.worked ≡ t.held → pending (state_of t) ≡ false
idle_worked t all =
    let long = length-take-le t.held t.facts.now (rows_fit t) in
    and_right (not t.full) (ltb t.worked (length (state_of t).rows)) (le-ltb t.worked (length (state_of t).rows) (omega arith))

pub busy : (t : Inquiry) → t.full ≡ false → t.worked < t.held → pending (state_of t) ≡ true
busy t free lt =
    let long = length-take-le t.held t.facts.now (rows_fit t) in
    and_from (not t.full) (ltb t.worked (length (state_of t).rows)) (not_from_false t.full free) (lt-ltb t.worked (length (state_of t).rows) (omega arith))

-- a dig takes back no fact that was worked
work_more : (X : Setting) (places : ℕ) (s : Search) → s.worked ≤ (work X places s).worked
unfolding work
work_more X places s =
    let S = offer_all places s (offers X s.rows s.worked) in
    let still = offers_worked places s (offers X s.rows s.worked) in
    cond_both S.full S (record { rows = S.rows; worked = S.worked + 1; full = S.full }) (λ t. s.worked ≤ t.worked) (λ h. omega arith) (λ h. omega arith)

dug_worked : (X : Setting) (places k : ℕ) (s : Search) → s.worked ≤ (dug X places k s).worked
unfolding dug
dug_worked X places zero s = omega arith
dug_worked X places (suc k) s =
    let one = work_more X places s in
    let rest = dug_worked X places k (work X places s) in
    cond_both (pending s) (dug X places k (work X places s)) s (λ t. s.worked ≤ t.worked) (λ h. omega arith) (λ h. omega arith)

pub dug_since : (X : Setting) (places k : ℕ) (s t : Search) → t ≡ dug X places k s → s.worked ≤ t.worked
dug_since X places k s t e = let more = dug_worked X places k s in let same = ap (λ (u : Search). u.worked) e in omega arith
