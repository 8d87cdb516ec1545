-- What a recipe's being lawful gives to the rules and the watches.
use Rattle.std.proofs.Common.{◌≡◌, ℕ, ◌+◌, ◌<◌, ◌≤◌, true, cond, ltb, Option, List, length, get_or, unwrap_or, sym, ap, ◌∙◌, inl, inr, arith}
use Rattle.std.specs.List.{slice_get}
use Rattle.std.proofs.lemmas.List.{get_or_past}
use Rattle.std.proofs.lemmas.Option.{slice_get-get_or}
use Rattle.std.proofs.lemmas.Bool.{cases_lt, cond-true, cond-false, lt-ltb, le-ltb}
use Rattle.std.proofs.lemmas.Bool.Decides.{nat_tests}
use Rattle.model.specs.Program.{no_method, no_row, method_at, rights_of}
use Rattle.model.specs.Watches.{asks_step, after_cell}
use Rattle.model.proofs.Sums.{home_far}
use Rattle.recipe.specs.declared.Recipe.{Recipe}
use Rattle.recipe.specs.Recipes.{program, cell_of}
use Rattle.recipe.proofs.Standing.{stands}

-- a node past the last is of no method, and has no rights
pub no_rights : (r : Recipe) (n : ℕ) → length (program r).nodes ≤ n → rights_of (program r) n ≡ 0
no_rights r n far =
    let p = program r in
    let e = home_far p.methods n (let s = (stands r).summing in omega arith) in
    ap (λ k. (method_at p k).rights) e ∙ ap (λ m. m.rights) (get_or_past p.methods (length p.methods) no_method (omega arith))

-- the cell of a state on a mark, 255 past the last row, leads where the table does, and to a state
module _ (r : Recipe) (q mark : ℕ) (state : q ≤ length (program r).rows) (few : mark < 32) where
  abbrev rows : List (List ℕ)
  rows = (program r).rows

  abbrev cell : ℕ
  cell = unwrap_or (cell_of (program r) q mark) 255

  in_row : q < length rows → cell ≡ get_or (get_or rows q no_row) mark 0
  in_row lt = ap (λ o. unwrap_or o 255) (slice_get-get_or (get_or rows q no_row) mark 0 (let w = ((stands r).row q lt).wide in omega arith))

  past_rows : length rows ≤ q → cell ≡ 255
  past_rows far = ap (λ row. unwrap_or (slice_get row mark) 255) (get_or_past rows q no_row far)

  cell_leads : after_cell (length rows) cell ≡ cond (ltb q (length rows)) (after_cell (length rows) (get_or (get_or rows q no_row) mark 0)) (length rows)
  cell_leads = elim (cases_lt q (length rows)) [
    | inl lt ↦ ap (after_cell (length rows)) (in_row lt) ∙ sym (cond-true (ltb q (length rows)) _ _ (lt-ltb q (length rows) lt))
    | inr far ↦ ap (after_cell (length rows)) (past_rows far) ∙ sym (cond-false (ltb q (length rows)) _ _ (le-ltb q (length rows) far))
  ]

  cell_below : after_cell (length rows) cell < length rows + 1
  cell_below = elim (cases_lt q (length rows)) [
    | inl lt ↦ let e = in_row lt in let c = ((stands r).row q lt).cells mark few in grind (arith, nat_tests)
    | inr far ↦ let e = past_rows far in grind (arith, nat_tests)
  ]

  -- so what it leads to is where the table watch goes
  pub cell_steps : (o : Option ℕ) (n : ℕ) → cell_of (program r) q mark ≡ o → after_cell (length rows) (unwrap_or o 255) ≡ n
      → (n ≡ cond (asks_step (length rows + 1) q mark) (cond (ltb q (length rows)) (after_cell (length rows) (get_or (get_or rows q no_row) mark 0)) (length rows)) 0) × (n < length rows + 1)
  cell_steps o n same leads_to =
      let asked : asks_step (length rows + 1) q mark ≡ true = grind (arith, nat_tests) in
      let to : after_cell (length rows) cell ≡ n = ap (λ c. after_cell (length rows) (unwrap_or c 255)) same ∙ leads_to in
      let b = cell_below in
      (sym to ∙ cell_leads ∙ sym (cond-true (asks_step (length rows + 1) q mark) _ 0 asked), omega arith)
