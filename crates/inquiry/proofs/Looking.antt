-- Steps of a look through the rows of a table, and through the edges.
use Rattle.std.proofs.Common.{◌≡◌, ℕ, zero, suc, ◌<◌, ◌≤◌, true, false, ◌||◌, List, [], ◌∷◌, length, Some, None, Option, is_some, IfSome, MatchOption, slice_index_or, sym, refl, ap, ◌∙◌, arith}
use Rattle.std.specs.List.{list_any, AllWithin, HoldsAt}
use Rattle.std.proofs.lemmas.Bool.{cond-true, cond-false}
use Rattle.std.proofs.lemmas.List.Elements.{All-from_all_within}
use Rattle.std.proofs.lemmas.List.Folds.{list_any_none, list_any_at}
use Rattle.model.specs.declared.Edge.{Edge}
use Rattle.model.specs.declared.Fact.{Fact}
use Rattle.model.specs.Tables.{no_fact, same_fact, is_held, targets, any_bad, first_bad}
use Rattle.model.specs.Watches.{Watch}
use Rattle.inquiry.specs.declared.Inquiry.{Inquiry}

-- the rows have their places in the table
pub rows_fit : (t : Inquiry) → t.held ≤ length t.facts.now
rows_fit t = omega (arith, t.within, t.lent)

-- where no edge is left, none leads on
pub targets_none : (node : ℕ) {es : List Edge} → es ≡ [] → targets es node ≡ []
unfolding targets
targets_none node e = ap (λ ds. targets ds node) e

-- some row is bad if the watch says so of one
pub any_bad_is : (W : Watch) (rows : List Fact) → list_any (λ (r : Fact). W.bad r.state) rows ≡ any_bad W rows
unfolding any_bad
any_bad_is W [] = refl
any_bad_is W (r ∷ rows) = ap (λ b. W.bad r.state || b) (any_bad_is W rows)

-- a fact is held if some row has it
pub is_held_is : (f : Fact) (rows : List Fact) → list_any (λ r. same_fact r f) rows ≡ is_held rows f
unfolding is_held
is_held_is f [] = refl
is_held_is f (r ∷ rows) = ap (λ b. same_fact r f || b) (is_held_is f rows)

-- what a look for a row that has a fact tells
pub found_is : (f : Fact) (rows : List Fact) (found : Option ℕ)
    → MatchOption found (AllWithin (λ r. same_fact r f ≡ false) rows 0 (length rows)) (λ i. (i < length rows) × HoldsAt (λ r. same_fact r f ≡ true) rows i × AllWithin (λ r. same_fact r f ≡ false) rows 0 i)
    → (is_some found ≡ is_held rows f) × IfSome found (λ i. (i < length rows) × (same_fact (slice_index_or rows i no_fact) f ≡ true))
found_is f rows None none = (sym (list_any_none (λ r. same_fact r f) rows (All-from_all_within (λ r. same_fact r f ≡ false) rows none)) ∙ is_held_is f rows, tt)
found_is f rows (Some i) (lt, here, before) = (sym (list_any_at (λ r. same_fact r f) rows i no_fact lt (here no_fact)) ∙ is_held_is f rows, (lt, here no_fact))

-- the first bad row is the one that is bad, with none before it
first_at : (W : Watch) (rows : List Fact) (i : ℕ) → i < length rows → W.bad (slice_index_or rows i no_fact).state ≡ true → ((k : ℕ) → k < i → W.bad (slice_index_or rows k no_fact).state ≡ false) → i ≡ first_bad W rows
unfolding first_bad
first_at W [] i lt here before = absurd (omega arith)
first_at W (r ∷ rows) zero lt here before = sym (cond-true (W.bad r.state) 0 (suc (first_bad W rows)) here)
first_at W (r ∷ rows) (suc i) lt here before =
    ap suc (first_at W rows i (omega arith) here (λ k below. before (suc k) (omega arith))) ∙ sym (cond-false (W.bad r.state) 0 (suc (first_bad W rows)) (before 0 (omega arith)))

-- what a look for a bad row tells
pub bad_found : (W : Watch) (rows : List Fact) (found : Option ℕ)
    → MatchOption found (AllWithin (λ (r : Fact). W.bad r.state ≡ false) rows 0 (length rows)) (λ i. (i < length rows) × HoldsAt (λ (r : Fact). W.bad r.state ≡ true) rows i × AllWithin (λ (r : Fact). W.bad r.state ≡ false) rows 0 i)
    → MatchOption found (any_bad W rows ≡ false) (λ i. (any_bad W rows ≡ true) × (i ≡ first_bad W rows) × (i < length rows))
bad_found W rows None none = sym (any_bad_is W rows) ∙ list_any_none (λ (r : Fact). W.bad r.state) rows (All-from_all_within (λ (r : Fact). W.bad r.state ≡ false) rows none)
bad_found W rows (Some i) (lt, here, before) =
    (sym (any_bad_is W rows) ∙ list_any_at (λ (r : Fact). W.bad r.state) rows i no_fact lt (here no_fact), first_at W rows i lt (here no_fact) (λ k below. before k no_fact (omega arith) below), lt)
