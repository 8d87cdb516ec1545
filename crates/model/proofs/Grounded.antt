-- Rows that are derived from rows before them: a row given by the rows below a place, and what stays so as rows are added.
use Rattle.std.proofs.Common.{◌≡◌, ℕ, ◌<◌, ◌≤◌, true, false, ◌⊎◌, List, [], ◌∷◌, ◌++◌, length, take, sym, refl, subst, inl, inr, arith}
use Rattle.std.proofs.lemmas.List.{get_or-take, get_or_append_left, get_or_push, length-take-le, length_push, take-append-le, take_at}
use Rattle.std.proofs.lemmas.Bool.{cases_lt}
use Rattle.model.specs.declared.Fact.{Fact}
use Rattle.model.specs.Access.{call_enters}
use Rattle.model.specs.Program.{is_entry_of, Leads}
use Rattle.model.specs.Facts.{Setting, kind_at}
use Rattle.model.specs.Runs.{goes_on}
use Rattle.model.specs.Searches.{DerivedFrom, by_first, by_follow, by_enter, by_back}
use Rattle.model.specs.Tables.{end_of, row_at, no_fact, first_row, follow_row, enter_row, back_row, is_held, joins}

-- a row is given by its rule from rows at places below n
pub data Given (X : Setting) (rows : List Fact) (n : ℕ) : Fact → Type 0 where
  first : (k : ℕ) → is_entry_of X.program 0 k ≡ true → Given X rows n (first_row X k)
  follow : (i m : ℕ) → i < n → goes_on X.rule (kind_at X (end_of (row_at rows i))) (row_at rows i).node (row_at rows i).value ≡ true → Leads X.edges (row_at rows i).node m
      → Given X rows n (follow_row X i (row_at rows i) m)
  enter : (i m : ℕ) → i < n → call_enters X.program (kind_at X (end_of (row_at rows i))) m ≡ true
      → Given X rows n (enter_row X i (row_at rows i) m)
  back : (i j m : ℕ) → i < n → j < n → joins X (row_at rows i) (row_at rows j) ≡ true → Leads X.edges (row_at rows i).node m
      → Given X rows n (back_row X i (row_at rows i) j (row_at rows j) m)

-- the rows below place n stand at the same places of other rows, below place k
abbrev pub Stay : List Fact → ℕ → List Fact → ℕ → Type 0
Stay rows n others k = (i : ℕ) → i < n → (i < k) × (row_at others i ≡ row_at rows i)

module _ (X : Setting) where
  -- what rows give, they give wherever they stay
  pub given_stays : (rows others : List Fact) (n k : ℕ) {f : Fact} → Stay rows n others k → Given X rows n f → Given X others k f
  given_stays rows others n k stay (first e h) = first e h
  given_stays rows others n k stay (follow i m lt g l) =
      let s = stay i lt in
      subst (λ c. goes_on X.rule (kind_at X (end_of c)) c.node c.value ≡ true → Leads X.edges c.node m → Given X others k (follow_row X i c m)) s.1 (follow i m s.0) g l
  given_stays rows others n k stay (enter i m lt g) =
      let s = stay i lt in
      subst (λ c. call_enters X.program (kind_at X (end_of c)) m ≡ true → Given X others k (enter_row X i c m)) s.1 (enter i m s.0) g
  given_stays rows others n k stay (back i j m lt below g l) =
      let s = stay i lt in
      let t = stay j below in
      subst (λ c. joins X c (row_at rows j) ≡ true → Leads X.edges c.node m → Given X others k (back_row X i c j (row_at rows j) m)) s.1
      (subst (λ x. joins X (row_at others i) x ≡ true → Leads X.edges (row_at others i).node m → Given X others k (back_row X i (row_at others i) j x m)) t.1 (back i j m s.0 t.0)) g l

  -- a row is given by rows exactly if it is derived from them
  pub given_derived : (rows : List Fact) {f : Fact} → Given X rows (length rows) f → DerivedFrom X rows f
  given_derived rows (first e h) = by_first e h
  given_derived rows (follow i m lt g l) = by_follow i m lt g l
  given_derived rows (enter i m lt g) = by_enter i m lt g
  given_derived rows (back i j m lt below g l) = by_back i j m lt below g l

  pub derived_given : (rows : List Fact) {f : Fact} → DerivedFrom X rows f → Given X rows (length rows) f
  derived_given rows (by_first e h) = first e h
  derived_given rows (by_follow i m lt g l) = follow i m lt g l
  derived_given rows (by_enter i m lt g) = enter i m lt g
  derived_given rows (by_back i j m lt below g l) = back i j m lt below g l

  -- and given by the rows below n exactly if it is derived from the first n
  pub derived_from : (rows : List Fact) (n : ℕ) (f : Fact) → n ≤ length rows → Given X rows n f → DerivedFrom X (take n rows) f
  derived_from rows n f le g =
      let e = length-take-le n rows le in
      given_derived (take n rows) (given_stays rows (take n rows) n (length (take n rows)) (λ i lt. (omega arith, get_or-take n rows i no_fact lt)) g)

  pub given_from : (rows : List Fact) (n : ℕ) (f : Fact) → n ≤ length rows → DerivedFrom X (take n rows) f → Given X rows n f
  given_from rows n f le d =
      let e = length-take-le n rows le in
      given_stays (take n rows) rows (length (take n rows)) n (λ i lt. (omega arith, sym (get_or-take n rows i no_fact (omega arith)))) (derived_given (take n rows) d)

  -- what rows give is given below a later place, and with more rows behind or without them
  pub given_later : (rows : List Fact) (n k : ℕ) (f : Fact) → n ≤ k → Given X rows n f → Given X rows k f
  given_later rows n k f le g = given_stays rows rows n k (λ i lt. (omega arith, refl)) g

  pub given_more : (rows more : List Fact) (n : ℕ) (f : Fact) → n ≤ length rows → Given X rows n f → Given X (rows ++ more) n f
  given_more rows more n f le g = given_stays rows (rows ++ more) n n (λ i lt. (lt, get_or_append_left rows more no_fact i (omega arith))) g

  pub given_front : (rows more : List Fact) (n : ℕ) (f : Fact) → n ≤ length rows → Given X (rows ++ more) n f → Given X rows n f
  given_front rows more n f le g = given_stays (rows ++ more) rows n n (λ i lt. (lt, sym (get_or_append_left rows more no_fact i (omega arith)))) g

-- each row is given by rows before it, and no fact is held twice
pub record Grounded (X : Setting) (rows : List Fact) : Type 0 where
  pub given : (i : ℕ) → i < length rows → Given X rows i (row_at rows i)
  pub once : (i : ℕ) → i < length rows → is_held (take i rows) (row_at rows i) ≡ false

pub grounded_nil : (X : Setting) → Grounded X []
grounded_nil X = record { given = λ i lt. absurd (omega arith); once = λ i lt. absurd (omega arith) }

-- a new row that the rows give may stand behind them
pub grounded_push : (X : Setting) (rows : List Fact) (f : Fact) → Grounded X rows → Given X rows (length rows) f → is_held rows f ≡ false → Grounded X (rows ++ f ∷ [])
grounded_push X rows f h g new = record { given = λ i lt. given i lt (cases_lt i (length rows)); once = λ i lt. once i lt (cases_lt i (length rows)) }
  where
    given : (i : ℕ) → i < length (rows ++ f ∷ []) → (i < length rows) ⊎ (length rows ≤ i) → Given X (rows ++ f ∷ []) i (row_at (rows ++ f ∷ []) i)
    given i lt (inl below) = rw (get_or_append_left rows (f ∷ []) no_fact i below) (given_more X rows (f ∷ []) i (row_at rows i) (omega arith) (h.given i below))
    given i lt (inr last) =
        let k = length_push rows f in
        let e : length rows ≡ i = omega arith in
        rw (get_or_push rows f no_fact i e) (given_more X rows (f ∷ []) i f (omega arith) (subst (λ n. Given X rows n f) e g))

    once : (i : ℕ) → i < length (rows ++ f ∷ []) → (i < length rows) ⊎ (length rows ≤ i) → is_held (take i (rows ++ f ∷ [])) (row_at (rows ++ f ∷ []) i) ≡ false
    once i lt (inl below) = let le : i ≤ length rows = omega arith in rw (get_or_append_left rows (f ∷ []) no_fact i below, take-append-le i rows (f ∷ []) le) (h.once i below)
    once i lt (inr last) =
        let k = length_push rows f in
        let e : length rows ≡ i = omega arith in
        rw (get_or_push rows f no_fact i e, take_at rows (f ∷ []) i e) new
