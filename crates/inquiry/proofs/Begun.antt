-- An opening: the edges that are copied, and the search that it begins.
use Rattle.std.proofs.Common.{◌≡◌, ℕ, ◌+◌, ◌-◌, ◌<◌, ◌≤◌, List, [], ◌∷◌, ◌++◌, length, get_or, take, drop, set, sym, refl, ap, ◌∙◌, arith}
use Rattle.std.proofs.lemmas.List.{append_assoc, drop_more, set_at, length-drop, length-take-le, take_all}
use Rattle.model.specs.declared.Edge.{Edge}
use Rattle.model.specs.Facts.{Setting}
use Rattle.model.specs.Program.{no_edge}
use Rattle.model.specs.Tables.{opened, empty, offer_all, firsts}
use Rattle.model.proofs.Nexts.{next_lt, next_taken}

-- of the edges that are left one more is copied
module _ (own : List Edge) (i : ℕ) (e : Edge) (rest : List Edge) (next : drop i own ≡ e ∷ rest) where
  pub copied_more : (es ds : List Edge) → i < length es → ds ≡ take i own ++ drop i es → set ds i e ≡ take (i + 1) own ++ drop (i + 1) es
  copied_more es ds fits is =
      ap (λ xs. set xs i e) is
      ∙ ap (λ xs. set (take i own ++ xs) i e) (drop_more es i no_edge fits)
      ∙ set_at (take i own) (get_or es i no_edge) (drop (i + 1) es) e i (let lt = next_lt own i e rest next in length-take-le i own (omega arith))
      ∙ sym (append_assoc (take i own) (e ∷ []) (drop (i + 1) es))
      ∙ ap (λ xs. xs ++ drop (i + 1) es) (sym (next_taken own i e rest next))

-- all are copied
pub copied_all : (own es ds : List Edge) (i : ℕ) → ds ≡ take i own ++ drop i es → i ≤ length own → drop i own ≡ [] → ds ≡ own ++ drop (length own) es
copied_all own es ds i e within none =
    let n : length own - i ≡ 0 = sym (length-drop i own) ∙ ap length none in
    let all : i ≡ length own = omega arith in
    e ∙ ap (λ k. take k own ++ drop k es) all ∙ ap (λ xs. xs ++ drop (length own) es) (take_all (length own) own (omega arith))

pub opened_is : (X : Setting) (places : ℕ) → offer_all places empty (firsts X) ≡ opened X places
unfolding opened
opened_is X places = refl
