-- How a table that holds a search grows.
use Rattle.std.proofs.Common.{◌≡◌, ℕ, zero, suc, ◌+◌, ◌-◌, ◌<◌, ◌≤◌, Bool, true, false, List, [], ◌++◌, take, drop, sym, refl, ap, ◌∙◌, ⊎_elim, arith}
use Rattle.std.proofs.lemmas.List.{drop-drop, take-take, get_or-take}
use Rattle.std.proofs.lemmas.Bool.{cases_lt, cond-true, cond-false}
use Rattle.model.specs.declared.Fact.{Fact}
use Rattle.model.specs.Tables.{Search, row_at, no_fact, offer_all, each_from, joins, backs, return_at, call_at}
use Rattle.model.specs.Facts.{Setting}
use Rattle.model.proofs.Each.{each_step, each_end, each_skip}
use Rattle.model.proofs.Held.{offers_nil, offers_append}
use Rattle.inquiry.specs.declared.Inquiry.{Inquiry}
use Rattle.inquiry.specs.Inquiries.{state_of, Grown}

-- a search by its parts
pub search_is : {rows others : List Fact} {m n : ℕ} {b d : Bool} → rows ≡ others → m ≡ n → b ≡ d → ◌≡◌ {A = Search} (record { rows = rows; worked = m; full = b }) (record { rows = others; worked = n; full = d })
search_is e f g = λ i. record { rows = e i; worked = f i; full = g i }

-- a table that is as it was has grown by nothing
pub grown_same : (t : Inquiry) → Grown t t
grown_same t = record { same = refl; places = refl; more = omega arith; kept = refl; rest = refl; opening = refl; fits = refl }

-- lists that are the same from a place on are so from a later one
pub drop_later : {A : Type 0} (m n : ℕ) (xs ys : List A) → m ≤ n → drop m xs ≡ drop m ys → drop n xs ≡ drop n ys
drop_later m n xs ys le e =
    let split : m + (n - m) ≡ n = omega arith in
    ap (λ k. drop k xs) (sym split) ∙ sym (drop-drop (n - m) m xs) ∙ ap (drop (n - m)) e ∙ drop-drop (n - m) m ys ∙ ap (λ k. drop k ys) split

-- what has grown twice has grown
pub grown_again : {a b c : Inquiry} → Grown a b → Grown b c → Grown a c
grown_again {a} {b} {c} g h =
    let m = g.more in
    let n = h.more in
    record {
      same = h.same ∙ g.same;
      places = h.places ∙ g.places;
      more = omega arith;
      kept = sym (take-take a.held b.held c.facts.now m) ∙ ap (take a.held) h.kept ∙ take-take a.held b.held b.facts.now m ∙ g.kept;
      rest = h.rest ∙ drop_later b.held c.held b.facts.now a.facts.now n g.rest;
      opening = h.opening ∙ g.opening;
      fits = h.fits ∙ g.fits;
    }

-- rows are being offered to a table: those that are left, offered to what it is now, give what all of them give, offered to what it was
pub record Going (before after : Inquiry) (all left : List Fact) : Type 0 where
  pub rest : offer_all after.places (state_of after) left ≡ offer_all before.places (state_of before) all
  pub grown : Grown before after

pub going_start : (t : Inquiry) (all : List Fact) → Going t t all all
going_start t all = record { rest = refl; grown = grown_same t }

-- several rows were offered
pub going_some : {before t u : Inquiry} {all : List Fact} (fs left : List Fact) → Going before t all (fs ++ left) → state_of u ≡ offer_all t.places (state_of t) fs → Grown t u → Going before u all left
going_some {before} {t} {u} {all} fs left g e h =
    record {
      rest = ap (λ n. offer_all n (state_of u) left) h.places ∙ ap (λ s. offer_all t.places s left) e ∙ sym (offers_append t.places (state_of t) fs left) ∙ g.rest;
      grown = grown_again g.grown h;
    }

-- what is left, written in another way
pub going_on : {before t : Inquiry} {all left others : List Fact} → left ≡ others → Going before t all left → Going before t all others
going_on {before} {t} {all} e g = record { rest = ap (offer_all t.places (state_of t)) (sym e) ∙ g.rest; grown = g.grown }

-- nothing is left
pub going_end : {before t : Inquiry} {all : List Fact} → Going before t all [] → state_of t ≡ offer_all before.places (state_of before) all
going_end {before} {t} g = sym (offers_nil t.places (state_of t)) ∙ g.rest

-- a range up to its first number at which something stands, and one at which nothing does
pub each_first : (i j n : ℕ) (f : ℕ → List Fact) → i ≤ j → j < n → ((k : ℕ) → i ≤ k → k < j → f k ≡ []) → each_from i n f ≡ f j ++ each_from (j + 1) n f
each_first i j n f le lt none = each_skip i j n f le (omega arith) none ∙ each_step j n f lt

pub each_none : (i n : ℕ) (f : ℕ → List Fact) → ((k : ℕ) → i ≤ k → k < n → f k ≡ []) → each_from i n f ≡ []
each_none i n f none = ⊎_elim (λ lt. each_skip i n n f (omega arith) (omega arith) none ∙ each_end n n f (omega arith)) (λ ge. each_end i n f ge) (cases_lt i n)

-- what stands at each number of a range is the same
pub each_same : (i n : ℕ) (f h : ℕ → List Fact) → ((k : ℕ) → k < n → f k ≡ h k) → each_from i n f ≡ each_from i n h
each_same i n f h same = by (n - i) i (omega arith)
  where
    by : (d i : ℕ) → n - i ≡ d → each_from i n f ≡ each_from i n h
    by zero i e = each_end i n f (omega arith) ∙ sym (each_end i n h (omega arith))
    by (suc d) i e =
        each_step i n f (omega arith) ∙ ap (λ xs. xs ++ each_from (i + 1) n f) (same i (omega arith)) ∙ ap (λ xs. h i ++ xs) (by d (i + 1) (omega arith))
        ∙ sym (each_step i n h (omega arith))

-- a row that was held is where it was
pub grown_row : {b a : Inquiry} → Grown b a → (j : ℕ) → j < b.held → row_at (state_of b).rows j ≡ row_at a.facts.now j
grown_row {b} {a} g j lt = ap (λ xs. row_at xs j) (sym g.kept) ∙ get_or-take b.held a.facts.now j no_fact lt

-- what stands at a place below what was held: nothing, or what rule 4 makes of the row that is there now
module _ (X : Setting) {b a : Inquiry} (g : Grown b a) (i : ℕ) (f : Fact) (k : ℕ) (lt : k < b.held) where
  pub no_return : joins X f (row_at a.facts.now k) ≡ false → return_at X (state_of b).rows i f k ≡ []
  no_return h = cond-false (joins X f (row_at (state_of b).rows k)) (backs X i f k (row_at (state_of b).rows k)) [] (ap (joins X f) (grown_row g k lt) ∙ h)

  pub a_return : joins X f (row_at a.facts.now k) ≡ true → return_at X (state_of b).rows i f k ≡ backs X i f k (row_at a.facts.now k)
  a_return h =
      cond-true (joins X f (row_at (state_of b).rows k)) (backs X i f k (row_at (state_of b).rows k)) [] (ap (joins X f) (grown_row g k lt) ∙ h)
      ∙ ap (backs X i f k) (grown_row g k lt)

  pub no_call : joins X (row_at a.facts.now k) f ≡ false → call_at X (state_of b).rows i f k ≡ []
  no_call h = cond-false (joins X (row_at (state_of b).rows k) f) (backs X k (row_at (state_of b).rows k) i f) [] (ap (λ c. joins X c f) (grown_row g k lt) ∙ h)

  pub a_call : joins X (row_at a.facts.now k) f ≡ true → call_at X (state_of b).rows i f k ≡ backs X k (row_at a.facts.now k) i f
  a_call h =
      cond-true (joins X (row_at (state_of b).rows k) f) (backs X k (row_at (state_of b).rows k) i f) [] (ap (λ c. joins X c f) (grown_row g k lt) ∙ h)
      ∙ ap (λ c. backs X k c i f) (grown_row g k lt)
