-- Check's stages after one another: the first stage that refuses gives the refusal. And the exit of a `?`.
use Rattle.std.proofs.Common.{◌≡◌, ℕ, Bool, List, IsErrAnd, Some, None, Option, Result, sym, ap, ◌∙◌}
use Rattle.std.specs.Result.{result_err}
use Rattle.std.proofs.lemmas.Result.{err_from_is_err_and}
use Rattle.recipe.specs.declared.Layout.{Layout}
use Rattle.recipe.specs.declared.grounds.Refusal.{Refusal}
use Rattle.recipe.specs.declared.grounds.Refusal.TheVariants.{BadMethod, BadNode, BadEdge, BadRow}
use Rattle.recipe.specs.Bytes.{count_in}
use Rattle.recipe.specs.Offence.{first_offence, each, method_test, node_test, entry_test, edge_test, row_test, check_tests}
use Rattle.recipe.proofs.Firsts.{first_of_two, second_of_two}

-- what leaves by a `?` is the refusal that came to it
pub exit : {T : Type 0} (r : Result T Refusal) (x : Refusal) → IsErrAnd r (λ y. y ≡ x) → result_err r ≡ Some x
exit r x e = let p = err_from_is_err_and r e in ap result_err p.1 ∙ ap Some p.2

-- the tests of the stages
abbrev pub methods : List ℕ → List (Bool × Refusal)
methods bs = each (count_in bs 0) (method_test bs) BadMethod

abbrev pub nodes : List ℕ → List (Bool × Refusal)
nodes bs = each (count_in bs 1) (node_test bs) BadNode

abbrev pub entries : List ℕ → List (Bool × Refusal)
entries bs = each (count_in bs 0) (entry_test bs) BadMethod

abbrev pub edges : List ℕ → List (Bool × Refusal)
edges bs = each (count_in bs 2) (edge_test bs) BadEdge

abbrev pub rows : List ℕ → List (Bool × Refusal)
rows bs = each (count_in bs 3) (row_test bs) BadRow

-- what a stage says of the layout that it was given, where this is that layout
pub told_of : (tests : List ℕ → List (Bool × Refusal)) (m l : Layout) → m ≡ l → (o : Option Refusal) → o ≡ first_offence (tests m.file.now) → first_offence (tests l.file.now) ≡ o
told_of tests m l same o e = sym (e ∙ ap (λ (l : Layout). first_offence (tests l.file.now)) same)

module _ (bs : List ℕ) where
  pub in_methods : (r : Refusal) → first_offence (methods bs) ≡ Some r → first_offence (check_tests bs) ≡ Some r
  in_methods r h = first_of_two (methods bs) _ r h

  pub in_nodes : (r : Refusal) → first_offence (methods bs) ≡ None → first_offence (nodes bs) ≡ Some r → first_offence (check_tests bs) ≡ Some r
  in_nodes r m h = second_of_two (methods bs) _ m ∙ first_of_two (nodes bs) _ r h

  pub in_entries : (r : Refusal) → first_offence (methods bs) ≡ None → first_offence (nodes bs) ≡ None → first_offence (entries bs) ≡ Some r → first_offence (check_tests bs) ≡ Some r
  in_entries r m n h = second_of_two (methods bs) _ m ∙ second_of_two (nodes bs) _ n ∙ first_of_two (entries bs) _ r h

  pub in_edges : (r : Refusal) → first_offence (methods bs) ≡ None → first_offence (nodes bs) ≡ None → first_offence (entries bs) ≡ None → first_offence (edges bs) ≡ Some r → first_offence (check_tests bs) ≡ Some r
  in_edges r m n e h = second_of_two (methods bs) _ m ∙ second_of_two (nodes bs) _ n ∙ second_of_two (entries bs) _ e ∙ first_of_two (edges bs) _ r h

  pub in_rows : first_offence (methods bs) ≡ None → first_offence (nodes bs) ≡ None → first_offence (entries bs) ≡ None → first_offence (edges bs) ≡ None → first_offence (check_tests bs) ≡ first_offence (rows bs)
  in_rows m n e g = second_of_two (methods bs) _ m ∙ second_of_two (nodes bs) _ n ∙ second_of_two (entries bs) _ e ∙ second_of_two (edges bs) (rows bs) g
