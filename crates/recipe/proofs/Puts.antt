-- Writing the records of edges, one after another.
use Rattle.std.proofs.Common.{◌≡◌, ℕ, ◌+◌, ◌*◌, ◌≤◌, List, [], ◌∷◌, ◌++◌, length, take, drop, sym, ap, ◌∙◌, append_assoc, arith}
use Rattle.std.specs.List.{flat_map}
use Rattle.std.proofs.lemmas.List.{drop-drop, take-append-drop, append-nil}
use Rattle.model.specs.declared.Edge.{Edge}
use Rattle.recipe.specs.Format.{edge_bytes}
use Rattle.recipe.proofs.Pieces.{put_front, put_past}

-- what is written so far and what is left to write make up the whole, and past it the output is as it was, xs
pub record Sofar (all : List Edge) (at : ℕ) (xs : List ℕ) (place : ℕ) (out : List ℕ) (left : List Edge) : Type 0 where
  pub front : take place out ++ flat_map edge_bytes left ≡ take at xs ++ flat_map edge_bytes all
  pub past : drop place out ≡ drop place xs
  pub room : place + 4 * length left ≡ at + 4 * length all

module _ (all : List Edge) (at : ℕ) (xs : List ℕ) where
  -- the next edge is written
  pub sofar_more : (place : ℕ) (out : List ℕ) (left : List Edge) (e : Edge) (others : List Edge) (bs out' : List ℕ) → Sofar all at xs place out left → left ≡ e ∷ others
      → bs ≡ edge_bytes e → place + 4 ≤ length out → out' ≡ take place out ++ (bs ++ drop (place + length bs) out) → Sofar all at xs (place + 4) out' others
  sofar_more place out left e others bs out' so next b fits is =
      let n : place + length bs ≡ place + 4 = ap (λ l. place + length l) b in
      let ok : place + length bs ≤ length out = omega arith in
      let rest = flat_map edge_bytes others in
      let f : take (place + 4) out' ≡ take place out ++ edge_bytes e = ap (λ k. take k out') (sym n) ∙ put_front out bs out' place ok is ∙ ap (λ l. take place out ++ l) b in
      let d : drop (place + 4) out' ≡ drop (place + 4) out = ap (λ k. drop k out') (sym n) ∙ put_past out bs out' place ok is ∙ ap (λ k. drop k out) n in
      record {
        front = ap (λ l. l ++ rest) f ∙ append_assoc (take place out) (edge_bytes e) rest ∙ ap (λ l. take place out ++ flat_map edge_bytes l) (sym next) ∙ so.front;
        past = d ∙ sym (drop-drop 4 place out) ∙ ap (drop 4) so.past ∙ drop-drop 4 place xs;
        room = let s = ap length next in let r = so.room in omega arith;
      }

  -- when none is left, all of it is written
  pub sofar_end : (place : ℕ) (out : List ℕ) (left : List Edge) → Sofar all at xs place out left → left ≡ [] → out ≡ take at xs ++ (flat_map edge_bytes all ++ drop (at + 4 * length all) xs)
  sofar_end place out left so none =
      let e : place ≡ at + 4 * length all = let g = ap length none in let r = so.room in omega arith in
      let f : take place out ≡ take at xs ++ flat_map edge_bytes all = sym (ap (λ l. take place out ++ flat_map edge_bytes l) none ∙ append-nil (take place out)) ∙ so.front in
      sym (take-append-drop place out) ∙ (λ t. f t ++ so.past t) ∙ append_assoc (take at xs) (flat_map edge_bytes all) (drop place xs)
      ∙ ap (λ k. take at xs ++ (flat_map edge_bytes all ++ drop k xs)) e
