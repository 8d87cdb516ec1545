-- The rights of a node's method, by the method's number; past the last node there are none.
use Rattle.std.proofs.Common.{◌≡◌, ℕ, ◌<◌, ◌≤◌, ltb, Some, None, Option, unwrap_or, length, subst, sym, ap, ◌∙◌, ◌⊎◌, inl, inr, arith}
use Rattle.std.specs.List.{slice_get}
use Rattle.std.proofs.lemmas.Bool.{cond-true, cases_lt, lt-ltb}
use Rattle.std.proofs.lemmas.List.{get_or_past}
use Rattle.std.proofs.lemmas.Option.{cond_some, unwrap_or-slice_get}
use Rattle.model.proofs.Sums.{home_far}
use Rattle.model.specs.declared.Method.{Method}
use Rattle.model.specs.Program.{no_method, method_at, home, offset, rights_of}
use Rattle.recipe.specs.declared.Recipe.{Recipe}
use Rattle.recipe.specs.Recipes.{program, method_of}
use Rattle.recipe.proofs.Standing.{stands}

module _ (r : Recipe) (n : ℕ) where
  pub rights_own : (k : ℕ) (m : Option Method) → method_of (program r) n ≡ Some k → m ≡ slice_get (program r).methods k → (unwrap_or m no_method).rights ≡ rights_of (program r) n
  rights_own k m h e =
      let at = cond_some (ltb n (length (program r).nodes)) (home (program r).methods n) k h in
      ap (λ (o : Option Method). (unwrap_or o no_method).rights) e
      ∙ ap (λ (m : Method). m.rights) (unwrap_or-slice_get (program r).methods k no_method) ∙ ap (λ j. (method_at (program r) j).rights) (sym at.1)

  pub no_rights : (o : Option ℕ) → o ≡ method_of (program r) n → ((k : ℕ) → o ≡ Some k → ⊥) → 0 ≡ rights_of (program r) n
  no_rights o e h = by (cases_lt n (length (program r).nodes))
    where
      by : (n < length (program r).nodes) ⊎ (length (program r).nodes ≤ n) → 0 ≡ rights_of (program r) n
      by (inl lt) = absurd (h (home (program r).methods n) (e ∙ cond-true (ltb n (length (program r).nodes)) (Some (home (program r).methods n)) None (lt-ltb n (length (program r).nodes) lt)))
      by (inr far) =
          let ms = (program r).methods in
          let past : home ms n ≡ length ms = home_far ms n (let s = (stands r).summing in omega arith) in
          sym (ap (λ (m : Method). m.rights) (get_or_past ms (home ms n) no_method (omega arith)))
