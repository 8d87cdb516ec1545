-- Laws of lists: what holds of a list of one element, and what is an element of a list that begins with another, or of a mapped one.
use Rattle.std.proofs.Common.{◌≡◌, zero, suc, ◌⊎◌, List, [], ◌∷◌, map, ap, inl, inr, arith, refl, All, Contains}
use Rattle.std.proofs.lemmas.List.Elements.{All-nil, All-cons}

-- what holds of one element holds of each in a list of it alone
pub All-one : {A : Type 0} (P : A → Type 0) (x : A) → P x → All P (x ∷ [])
All-one P x h = All-cons P x [] h (All-nil P)

-- a list has its first element, what the rest has, and nothing else
pub has_here : {A : Type 0} (x : A) (xs : List A) → Contains (x ∷ xs) x
has_here x xs = (0, omega arith, refl)

pub has_later : {A : Type 0} (y : A) (xs : List A) (x : A) → Contains xs x → Contains (y ∷ xs) x
has_later y xs x h = (suc h.0, omega (arith, h.1), h.2)

pub has_cases : {A : Type 0} (y : A) (xs : List A) (x : A) → Contains (y ∷ xs) x → (y ≡ x) ⊎ Contains xs x
has_cases y xs x (zero, lt, at) = inl at
has_cases y xs x (suc k, lt, at) = inr (k, omega arith, at)

pub has_map : {A B : Type 0} (f : A → B) (xs : List A) (x : A) → Contains xs x → Contains (map f xs) (f x)
has_map f [] x h = absurd (omega (arith, h.1))
has_map f (y ∷ xs) x (zero, lt, at) = (0, omega arith, ap f at)
has_map f (y ∷ xs) x (suc k, lt, at) = has_later (f y) (map f xs) (f x) (has_map f xs x (k, omega arith, at))
