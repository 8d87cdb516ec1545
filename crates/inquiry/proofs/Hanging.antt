-- Rows hang together: those that the rules make of held rows, and what hangs together while the table grows.
use Rattle.std.proofs.Common.{◌≡◌, ℕ, zero, suc, ◌+◌, ◌<◌, ◌≤◌, cond, eqb, List, [], ◌∷◌, map, length, Some, Option, sym, refl, ap, ◌∙◌, subst, add-one, arith}
use Rattle.std.specs.Iterator.{AlwaysYields, Yields}
use Rattle.std.proofs.lemmas.Iterator.{YieldsList}
use Rattle.std.proofs.lemmas.List.{length-take-le}
use Rattle.model.specs.declared.Fact.{Fact}
use Rattle.model.specs.Facts.{Setting}
use Rattle.model.specs.Tables.{row_at, capped, follow_row, enter_row, back_row}
use Rattle.inquiry.specs.declared.Inquiry.{Inquiry}
use Rattle.inquiry.specs.declared.placed.Placed.{Placed}
use Rattle.inquiry.specs.Inquiries.{state_of, IsRow, Grown}
use Rattle.inquiry.specs.Shapes.{span_at, Hangs}
use Rattle.inquiry.proofs.Growing.{grown_row, grown_same}
use Rattle.inquiry.proofs.Looking.{rows_fit}

-- what holds of whatever a function makes of an item holds of each that an iterator over such items gives
pub drawn : {S A B : Type 0} {steps : S → Option A → S → Type 0} (P : A → Type 0) (make : B → A) (ys : List B) {s : S} (t u : S) {x : A} → YieldsList steps (λ x. x) s (map make ys) → ((y : B) → P (make y)) → (seen : List A) → Yields steps s seen t → steps t (Some x) u → P x
drawn {S} {A} {B} {steps} P make ys {s} t u {x} gives each seen y h = by ys s t u x gives.runs seen y h
  where
    by : (ys : List B) (s t u : S) (x : A) → AlwaysYields steps (λ x. x) s (map make ys) → (seen : List A) → Yields steps s seen t → steps t (Some x) u → P x
    by [] s t u x g [] y h = absurd (g x u (subst (λ k. steps k (Some x) u) (sym y) h))
    by (z ∷ ys) s t u x g [] y h = subst P (sym (g.1 x u (subst (λ k. steps k (Some x) u) (sym y) h)).0) (each z)
    by [] s t u x g (w ∷ seen) y h = absurd (g w y.0 y.1)
    by (z ∷ ys) s t u x g (w ∷ seen) y h = by ys y.0 t u x (g.1 w y.0 y.1).1 seen y.2 h

-- the length at the place of a row, from 1
span_of : (rows : List Fact) (i : ℕ) → span_at rows (i + 1) ≡ (row_at rows i).span
span_of rows i = ap (span_at rows) (add-one i)

module _ (X : Setting) (rows : List Fact) where
  pub hangs_follow : (i : ℕ) (c : Fact) (m : ℕ) → i < length rows → row_at rows i ≡ c → Hangs rows (follow_row X i c m)
  hangs_follow i c m lt is = (omega arith, omega arith, ap (λ (r : Fact). capped (r.span + 1)) (sym is) ∙ (let e = span_of rows i in omega arith))

  pub hangs_enter : (i : ℕ) (c : Fact) (m : ℕ) → i < length rows → Hangs rows (enter_row X i c m)
  hangs_enter i c m lt = (omega arith, omega arith, refl)

  pub hangs_back : (i : ℕ) (c : Fact) (j : ℕ) (x : Fact) (m : ℕ) → i < length rows → j < length rows → row_at rows i ≡ c → row_at rows j ≡ x → Hangs rows (back_row X i c j x m)
  hangs_back i c j x m lt below is was = (omega arith, omega arith, (λ k. let r : Fact = sym is k in let t : Fact = sym was k in capped (r.span + t.span + 1)) ∙ (let e = span_of rows i in let f = span_of rows j in omega arith))

-- a fact with its place is a row of the search
pub row_in : (t : Inquiry) (p : Placed) → IsRow t p → (p.at < length (state_of t).rows) × (row_at (state_of t).rows p.at ≡ p.fact)
row_in t p h = let n = length-take-le t.held t.facts.now (rows_fit t) in (omega (arith, h.0), grown_row (grown_same t) p.at h.0 ∙ h.1)

-- and is one still after the table has grown
pub row_later : {b a : Inquiry} (p : Placed) → Grown b a → IsRow b p → IsRow a p
row_later {b} {a} p g h = let more = g.more in (omega (arith, h.0), sym (grown_row g p.at h.0) ∙ grown_row (grown_same b) p.at h.0 ∙ h.1)

-- the length at a place is the same after the table has grown
span_later : {b a : Inquiry} → Grown b a → (k : ℕ) → k ≤ b.held → span_at (state_of b).rows k ≡ span_at (state_of a).rows k
span_later g zero le = refl
span_later {b} {a} g (suc k) le =
    let more = g.more in
    ap (λ (r : Fact). r.span) (grown_row g k (omega arith) ∙ sym (grown_row (grown_same a) k (omega arith)))

-- a row hangs together with rows that have grown
pub hangs_later : {b a : Inquiry} → Grown b a → (f : Fact) → Hangs (state_of b).rows f → Hangs (state_of a).rows f
hangs_later {b} {a} g f h =
    let n = length-take-le b.held b.facts.now (rows_fit b) in
    let m = length-take-le a.held a.facts.now (rows_fit a) in
    let more = g.more in (
      omega (arith, h.0),
      omega (arith, h.1),
      h.2 ∙ (λ i. cond (eqb f.rule 3) 1 (capped (1 + span_later g f.source (omega (arith, h.0)) i + span_later g f.returned (omega (arith, h.1)) i))),
    )
