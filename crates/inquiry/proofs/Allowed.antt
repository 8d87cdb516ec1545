-- Calls that are allowed or refused: what holds in both cases holds, and what a call that answered, or was refused, was.
use Rattle.std.proofs.Common.{◌≡◌, Ok, Err, refl, rules}
use Rattle.recipe.specs.declared.grounds.Refusal.{Refusal}
use Rattle.inquiry.specs.Calls.{Allowed, answered}

-- each case may know that it is the one
pub by_cases : (P : Allowed → Type 0) (o : Allowed) → (Ok tt ≡ o → P (Ok tt)) → ((why : Refusal) → Err why ≡ o → P (Err why)) → P o
by_cases P (Ok u) passed refused = passed refl
by_cases P (Err why) passed refused = refused why refl

pub by_allowed : (P : Allowed → Type 0) (o : Allowed) → P (Ok tt) → ((why : Refusal) → P (Err why)) → P o
by_allowed P o passed refused = by_cases P o (λ _. passed) (λ why _. refused why)

pub refused_so : {A : Type 0} (o : Allowed) (a : A) (e : Refusal) → Err e ≡ answered o a → o ≡ Err e
refused_so (Ok u) a e h = search rules
refused_so (Err f) a e h = search rules

pub answered_so : {A : Type 0} (o : Allowed) (a x : A) → Ok x ≡ answered o a → (x ≡ a) × (o ≡ Ok tt)
answered_so (Ok u) a x h = search rules
answered_so (Err f) a x h = search rules
