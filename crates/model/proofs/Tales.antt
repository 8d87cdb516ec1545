-- Laws of tales: the tale of a row is made from those of the rows before it, and rows behind it do not change it.
use Rattle.std.proofs.Common.{◌≡◌, ℕ, ◌+◌, ◌<◌, ◌≤◌, List, [], ◌∷◌, ◌++◌, length, get_or, take, drop, sym, refl, ap, ◌∙◌, arith}
use Rattle.std.proofs.lemmas.List.{take-append-drop, drop_more, length-take-le, length_push, get_or_push, get_or_append_left}
use Rattle.model.specs.declared.Fact.{Fact}
use Rattle.model.specs.Tables.{row_at, no_fact, Tale, no_tale, tale_of, tales_after, tale_at}

tales_append : (tales : List Tale) (rows more : List Fact) → tales_after tales (rows ++ more) ≡ tales_after (tales_after tales rows) more
unfolding tales_after
tales_append tales [] more = refl
tales_append tales (f ∷ rows) more = tales_append (tales ++ tale_of tales f ∷ []) rows more

tales_length : (tales : List Tale) (rows : List Fact) → length (tales_after tales rows) ≡ length tales + length rows
unfolding tales_after
tales_length tales [] = omega arith
tales_length tales (f ∷ rows) = let e = tales_length (tales ++ tale_of tales f ∷ []) rows in let k = length_push tales (tale_of tales f) in omega arith

tales_stay : (tales : List Tale) (rows : List Fact) (i : ℕ) → i < length tales → get_or (tales_after tales rows) i no_tale ≡ get_or tales i no_tale
unfolding tales_after
tales_stay tales [] i lt = refl
tales_stay tales (f ∷ rows) i lt =
    let k = length_push tales (tale_of tales f) in
    tales_stay (tales ++ tale_of tales f ∷ []) rows i (omega arith) ∙ get_or_append_left tales (tale_of tales f ∷ []) no_tale i lt

tales_next : (tales : List Tale) (f : Fact) (rows : List Fact) → get_or (tales_after tales (f ∷ rows)) (length tales) no_tale ≡ tale_of tales f
unfolding tales_after
tales_next tales f rows =
    let k = length_push tales (tale_of tales f) in
    tales_stay (tales ++ tale_of tales f ∷ []) rows (length tales) (omega arith) ∙ get_or_push tales (tale_of tales f) no_tale (length tales) refl

-- the tales of the rows below place i, from 1, behind the empty one
abbrev pub tales_below : List Fact → ℕ → List Tale
tales_below rows i = tales_after (no_tale ∷ []) (take i rows)

module _ (rows : List Fact) (i : ℕ) (le : i ≤ length rows) where
  below_length : length (tales_below rows i) ≡ i + 1
  below_length = let a = tales_length (no_tale ∷ []) (take i rows) in let b = length-take-le i rows le in omega arith

  all_tales : tales_after (no_tale ∷ []) rows ≡ tales_after (tales_below rows i) (drop i rows)
  all_tales = ap (tales_after (no_tale ∷ [])) (sym (take-append-drop i rows)) ∙ tales_append (no_tale ∷ []) (take i rows) (drop i rows)

  -- the tale at each place below
  pub tale_source : (k : ℕ) → k < i → get_or (tales_below rows i) (k + 1) no_tale ≡ tale_at rows k
  unfolding tale_at
  tale_source k lt =
      let n = below_length in
      sym (ap (λ ts. get_or ts (k + 1) no_tale) all_tales ∙ tales_stay (tales_below rows i) (drop i rows) (k + 1) (omega arith))

  pub tale_none : get_or (tales_below rows i) 0 no_tale ≡ no_tale
  tale_none = tales_stay (no_tale ∷ []) (take i rows) 0 (omega arith)

-- a row's tale is made from the tales below it
pub tale_is : (rows : List Fact) (i : ℕ) → i < length rows → tale_at rows i ≡ tale_of (tales_below rows i) (row_at rows i)
unfolding tale_at
tale_is rows i lt =
    let le : i ≤ length rows = omega arith in
    ap (λ ts. get_or ts (i + 1) no_tale) (all_tales rows i le ∙ ap (tales_after (tales_below rows i)) (drop_more rows i no_fact lt))
    ∙ ap (λ k. get_or (tales_after (tales_below rows i) (row_at rows i ∷ drop (i + 1) rows)) k no_tale) (sym (below_length rows i le))
    ∙ tales_next (tales_below rows i) (row_at rows i) (drop (i + 1) rows)

-- rows that are added behind a row do not change its tale
pub tale_stays : (rows more : List Fact) (i : ℕ) → i < length rows → tale_at (rows ++ more) i ≡ tale_at rows i
unfolding tale_at
tale_stays rows more i lt =
    let n = tales_length (no_tale ∷ []) rows in
    ap (λ ts. get_or ts (i + 1) no_tale) (tales_append (no_tale ∷ []) rows more) ∙ tales_stay (tales_after (no_tale ∷ []) rows) more (i + 1) (omega arith)
