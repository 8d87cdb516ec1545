-- Going through a list, one after another, and how many edges of a list count.
use Rattle.std.proofs.Common.{◌≡◌, ℕ, ◌+◌, ◌<◌, ◌≤◌, ◌⊎◌, List, [], ◌∷◌, length, get_or, take, drop, Some, None, sym, ap, ◌∙◌, inl, inr, arith, rules}
use Rattle.std.proofs.lemmas.List.{drop_more, drop_all, length-take}
use Rattle.std.proofs.lemmas.Option.{slice_get_cases, slice_get_within, get_or_from_slice_get}
use Rattle.std.specs.List.{slice_get}
use Rattle.model.specs.declared.Edge.{Edge}
use Rattle.model.specs.Program.{Program}
use Rattle.model.proofs.Edges.{counted_length}
use Rattle.recipe.specs.Writing.{listed_edges}

-- the element at a place is the first one from there on
pub drop_at : {X : Type 0} (xs : List X) (i : ℕ) (x : X) → slice_get xs i ≡ Some x → drop i xs ≡ x ∷ drop (i + 1) xs
drop_at xs i x h = drop_more xs i x (slice_get_within xs i x h) ∙ ap (λ y. y ∷ drop (i + 1) xs) (get_or_from_slice_get xs i x x h)

-- where there is none, nothing is left
pub drop_past : {X : Type 0} (xs : List X) (i : ℕ) → slice_get xs i ≡ None → drop i xs ≡ []
drop_past {X} xs i h = by (slice_get_cases xs i).1
  where
    by : ((x : X) × (i < length xs) × (slice_get xs i ≡ Some x) × (get_or xs i x ≡ x)) ⊎ ((length xs ≤ i) × (slice_get xs i ≡ None)) → drop i xs ≡ []
    by (inl (x, lt, some, at)) = let e : Some x ≡ None = sym some ∙ h in search rules
    by (inr (far, none)) = drop_all i xs far

-- no more edges of a list count than are read
pub listed_few : (p : Program) (es : List Edge) → length (listed_edges p es) ≤ 4096
listed_few p es =
    let counted = counted_length p None (take 4096 es) in
    let read = length-take 4096 es in
    omega arith
