-- What rows that hang together tell: how long their stretches are, and from which rows a stretch and what stands below it come.
use Rattle.std.proofs.Common.{◌≡◌, ℕ, zero, suc, ◌+◌, ◌-◌, ◌<◌, ◌≤◌, true, false, cond, eqb, List, [], ◌∷◌, ◌++◌, length, get_or, take, sym, refl, ap, ◌∙◌, add-one, arith}
use Rattle.std.proofs.lemmas.List.{length-append, length-take-le, take-take, get_or-take}
use Rattle.std.proofs.lemmas.Bool.{cond-true, cond-false, cond_both}
use Rattle.model.specs.declared.Fact.{Fact}
use Rattle.model.specs.Tables.{row_at, no_fact, capped, Tale, no_tale, tale_at}
use Rattle.model.proofs.Tales.{tales_below, tale_source, tale_none, tale_is}
use Rattle.inquiry.specs.declared.Inquiry.{Inquiry}
use Rattle.inquiry.specs.Inquiries.{state_of}
use Rattle.inquiry.specs.Shapes.{span_at, Hangs, tale_from, stretch_from, back_from}
use Rattle.inquiry.proofs.Looking.{rows_fit}

-- each row hangs together with those before it
abbrev pub Hanging : List Fact → Type 0
Hanging rows = (i : ℕ) → i < length rows → Hangs (take i rows) (row_at rows i)

-- the rows of a search do
pub rows_hang : (t : Inquiry) → Hanging (state_of t).rows
rows_hang t i lt =
    let n = length-take-le t.held t.facts.now (rows_fit t) in
    let below : i < t.held = omega arith in
    rw (take-take i t.held t.facts.now (omega arith), get_or-take t.held t.facts.now i no_fact below) (t.hangs i below)

module _ (rows : List Fact) (hang : Hanging rows) where
  -- the sources of a row stand before it
  pub sources : (i : ℕ) → i < length rows → ((row_at rows i).source ≤ i) × ((row_at rows i).returned ≤ i)
  sources i lt = let h = hang i lt in let n = length-take-le i rows (omega arith) in (omega (arith, h.0), omega (arith, h.1))

  -- the tales below a row are those of the places before it
  tale_below : (i k : ℕ) → i < length rows → k ≤ i → get_or (tales_below rows i) k no_tale ≡ tale_from rows k
  tale_below i zero lt le = tale_none rows i (omega arith)
  tale_below i (suc k) lt le = ap (λ n. get_or (tales_below rows i) n no_tale) (sym (add-one k)) ∙ tale_source rows i (omega arith) k (omega arith)

  -- a row's tale comes from those of its sources
  tale_by : (i : ℕ) → i < length rows → tale_at rows i ≡ cond (eqb (row_at rows i).rule 3)
      (record { stretch = (row_at rows i).node ∷ []; below = back_from rows (row_at rows i).source })
      (record { stretch = (row_at rows i).node ∷ (stretch_from rows (row_at rows i).returned ++ stretch_from rows (row_at rows i).source); below = (tale_from rows (row_at rows i).source).below })
  tale_by i lt =
      let f = row_at rows i in
      let s = sources i lt in
      tale_is rows i lt ∙ (λ k.
      let source : Tale = tale_below i f.source lt s.0 k in
      let returned : Tale = tale_below i f.returned lt s.1 k in
      cond (eqb f.rule 3) (record { stretch = f.node ∷ []; below = source.stretch ++ source.below }) (record { stretch = f.node ∷ (returned.stretch ++ source.stretch); below = source.below }))

  pub begins : (i : ℕ) → i < length rows → eqb (row_at rows i).rule 3 ≡ true → tale_at rows i ≡ record { stretch = (row_at rows i).node ∷ []; below = back_from rows (row_at rows i).source }
  begins i lt h = tale_by i lt ∙ cond-true (eqb (row_at rows i).rule 3) _ _ h

  pub goes_on : (i : ℕ) → i < length rows → eqb (row_at rows i).rule 3 ≡ false
      → tale_at rows i ≡ record { stretch = (row_at rows i).node ∷ (stretch_from rows (row_at rows i).returned ++ stretch_from rows (row_at rows i).source); below = (tale_from rows (row_at rows i).source).below }
  goes_on i lt h = tale_by i lt ∙ cond-false (eqb (row_at rows i).rule 3) _ _ h

  -- a row at or before a place has below it what the row at that place has
  pub record Before (place : ℕ) (f : Fact) : Type 0 where
    pub at : ℕ
    pub lt : at < length rows
    pub is : f ≡ row_at rows at
    pub up : at < place
    pub below : (tale_from rows place).below ≡ (tale_at rows at).below

  -- the row of the place itself does
  pub before_start : (place : ℕ) (f : Fact) → 1 ≤ place → place ≤ length rows → f ≡ row_at rows (place - 1) → Before place f
  before_start zero f some le is = absurd (omega arith)
  before_start (suc i) f some le is = record { at = i; lt = omega arith; is = is ∙ ap (row_at rows) (let e : suc i - 1 ≡ i = omega arith in e); up = omega arith; below = refl }

  -- and so does its source, unless rule 3 gave it
  pub before_source : {place : ℕ} {f g : Fact} → Before place f → eqb f.rule 3 ≡ false → 1 ≤ f.source → g ≡ row_at rows (f.source - 1) → Before place g
  before_source {place} {f} {g} h other some is =
      let i = h.at in
      let s = sources i h.lt in
      let same : f.source ≡ (row_at rows i).source = ap (λ (r : Fact). r.source) h.is in
      let up = h.up in
      let told = ap (λ (t : Tale). t.below) (goes_on i h.lt (ap (λ (r : Fact). eqb r.rule 3) (sym h.is) ∙ other)) in
      record {
        at = f.source - 1;
        lt = let l = h.lt in omega (arith, s.0);
        is = is;
        up = omega (arith, s.0);
        below = h.below ∙ told ∙ ap (λ k. (tale_from rows k).below) (sym same) ∙ of f.source some;
      }
    where
      of : (k : ℕ) → 1 ≤ k → (tale_from rows k).below ≡ (tale_at rows (k - 1)).below
      of zero some = absurd (omega arith)
      of (suc k) some = ap (λ i. (tale_at rows i).below) (let e : k ≡ suc k - 1 = omega arith in e)

  -- that source's own source stands before it
  pub before_smaller : {place : ℕ} {f g : Fact} → Before place f → 1 ≤ f.source → g ≡ row_at rows (f.source - 1) → g.source < f.source
  before_smaller {place} {f} {g} h some is =
      let s = sources h.at h.lt in
      let same = ap (λ (r : Fact). r.source) h.is in
      let l = h.lt in
      let next = sources (f.source - 1) (omega (arith, s.0)) in
      let own = ap (λ (r : Fact). r.source) is in
      omega (arith, next.0)

  -- below a row that rule 3 gave is the trace of its source, and below one with no source nothing
  pub before_call : {place : ℕ} {f : Fact} → Before place f → eqb f.rule 3 ≡ true → (tale_from rows place).below ≡ back_from rows f.source
  before_call {place} {f} h call =
      h.below ∙ ap (λ (t : Tale). t.below) (begins h.at h.lt (ap (λ (r : Fact). eqb r.rule 3) (sym h.is) ∙ call)) ∙ ap (λ (r : Fact). back_from rows r.source) (sym h.is)

  pub before_none : {place : ℕ} {f : Fact} → Before place f → eqb f.rule 3 ≡ false → f.source ≡ 0 → (tale_from rows place).below ≡ back_from rows f.source
  before_none {place} {f} h other none =
      h.below ∙ ap (λ (t : Tale). t.below) (goes_on h.at h.lt (ap (λ (r : Fact). eqb r.rule 3) (sym h.is) ∙ other))
      ∙ ap (λ (r : Fact). (tale_from rows r.source).below) (sym h.is) ∙ ap (λ k. (tale_from rows k).below) none ∙ ap (back_from rows) (sym none)

  pub before_less : {place : ℕ} {f : Fact} → Before place f → f.source < place
  before_less {place} {f} h = let s = sources h.at h.lt in let same = ap (λ (r : Fact). r.source) h.is in let up = h.up in omega (arith, s.0)

  -- how long a row says its stretch is, by the stretches of its sources
  span_by : (i : ℕ) → i < length rows → (row_at rows i).span ≡ cond (eqb (row_at rows i).rule 3) 1 (capped (1 + span_at rows (row_at rows i).source + span_at rows (row_at rows i).returned))
  span_by i lt =
      let f = row_at rows i in
      let s = sources i lt in
      (hang i lt).2 ∙ (λ k. cond (eqb f.rule 3) 1 (capped (1 + of f.source s.0 k + of f.returned s.1 k)))
    where
      of : (k : ℕ) → k ≤ i → span_at (take i rows) k ≡ span_at rows k
      of zero le = refl
      of (suc k) le = ap (λ (r : Fact). r.span) (get_or-take i rows k no_fact (omega arith))

  -- it is that stretch's length, held
  spans_below : (n k : ℕ) → k ≤ n → k ≤ length rows → span_at rows k ≡ capped (length (stretch_from rows k))
  spans_below n zero le fits = refl
  spans_below zero (suc i) le fits = absurd (omega arith)
  spans_below (suc n) (suc i) le fits =
      let f = row_at rows i in
      let s = sources i (omega arith) in
      let source = spans_below n f.source (omega (arith, s.0)) (omega (arith, s.0)) in
      let returned = spans_below n f.returned (omega (arith, s.1)) (omega (arith, s.1)) in
      let both = length-append (stretch_from rows f.returned) (stretch_from rows f.source) in
      cond_both (eqb f.rule 3) 1 (capped (1 + span_at rows f.source + span_at rows f.returned)) (λ m. f.span ≡ m → f.span ≡ capped (length (tale_at rows i).stretch))
      (λ call e. e ∙ ap (λ (t : Tale). capped (length t.stretch)) (sym (begins i (omega arith) call)))
      (λ other e. e ∙ (let sum : capped (1 + span_at rows f.source + span_at rows f.returned) ≡ capped (suc (length (stretch_from rows f.returned ++ stretch_from rows f.source))) = omega arith in sum)
      ∙ ap (λ (t : Tale). capped (length t.stretch)) (sym (goes_on i (omega arith) other)))
      (span_by i (omega arith))

  pub spans : (k : ℕ) → k ≤ length rows → span_at rows k ≡ capped (length (stretch_from rows k))
  spans k le = spans_below k k (omega arith) le

  -- the length of what is left of a trace, with what was counted of it, after one stretch more
  pub counted_more : (n k next : ℕ) → k ≤ length rows → (tale_from rows k).below ≡ back_from rows next → capped (capped (n + span_at rows k) + length (back_from rows next)) ≡ capped (n + length (back_from rows k))
  counted_more n k next le below =
      let e = spans k le in
      let whole = length-append (stretch_from rows k) (tale_from rows k).below in
      let rest = ap length below in
      omega arith
