-- What a search for an item passes over.
use Rattle.std.proofs.Common.{◌≡◌, Bool, true, false, List, [], ◌∷◌, Option, Some, None, IfSome, sym, ap, subst, ◌∙◌}
use denote.Ref.{Bor}
use denote.Param.Members.{Mut}
use Rattle.std.specs.Fn.{CalledAt}
use Rattle.std.specs.Iterator.{FindsItem, Yields}
use Rattle.std.specs.List.{FoldsTo}

module _ {S A F C : Type 0} (steps : S → Option A → S → Type 0) (g : Mut F (Bor A × Unit {0}) Bool) (f : F) (test : A → Bool) (left : S → C)
    (calls : (x : A) (b : Bool) (q : F) → CalledAt g f x b q → (q ≡ f) × (b ≡ test x))
    (keeps : (p q : S) (x : A) → steps p (Some x) q → test x ≡ false → left p ≡ left q) where
  -- items that fail the test change nothing
  passed : (xs : List A) (s t : S) (h : F) → Yields steps s xs t → FoldsTo (λ p x q. CalledAt g p x false q) f xs h → (left s ≡ left t) × (h ≡ f)
  passed [] s t h same rest = (ap left same, sym rest)
  passed (x ∷ xs) s t h (j, step, more) (k, call, rest) =
      let c = calls x false k call in
      let next = passed xs j t h more (subst (λ p. FoldsTo (λ p x q. CalledAt g p x false q) p xs h) c.0 rest) in
      (keeps s j x step (sym c.1) ∙ next.0, next.1)

  found : (r : Option A) (h : F) → h ≡ f → IfSome r (λ x. (k : F) × CalledAt g h x true k) → IfSome r (λ x. true ≡ test x)
  found None h same call = tt
  found (Some x) h same (k, call) = (calls x true k (subst (λ p. CalledAt g p x true k) same call)).1

-- a search ends with one step, from where as much is left as at the beginning, at an item that passes
pub passed_over : {S A F C : Type 0} (steps : S → Option A → S → Type 0) {g : Mut F (Bor A × Unit {0}) Bool} {f : F} (test : A → Bool) (left : S → C) (s u : S) (r : Option A)
    → FindsItem steps g s f r u
    → ((x : A) (b : Bool) (q : F) → CalledAt g f x b q → (q ≡ f) × (b ≡ test x))
    → ((p q : S) (x : A) → steps p (Some x) q → test x ≡ false → left p ≡ left q)
    → (t : S) × (left s ≡ left t) × steps t r u × IfSome r (λ x. true ≡ test x)
passed_over steps {g} {f} test left s u r (xs, h, (t, yields, step), folds, last) calls keeps =
    let p = passed steps g f test left calls keeps xs s t h yields folds in
    (t, p.0, step, found steps g f test left calls keeps r h p.1 last)
