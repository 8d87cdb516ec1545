-- What a table of contents says that take's tests pass.
use Rattle.std.proofs.Common.{◌≡◌, ℕ, ◌≤◌, List, ◌++◌, length, Some, None, sym, ap, ◌∙◌}
use Rattle.std.proofs.lemmas.Bool.{le-leb, leb-true, eqb-true, and_parts}
use Rattle.recipe.specs.Bytes.{contents_in}
use Rattle.recipe.specs.declared.contents.Contents.{Contents}
use Rattle.recipe.specs.declared.grounds.Refusal.{Refusal}
use Rattle.recipe.specs.Offence.{first_offence, ends, count_tests, place_tests, take_tests}
use Rattle.recipe.proofs.Firsts.{passed, offence_past, first_of_two, second_of_two}

pub record Counted (c : Contents) : Type 0 where
  pub some_methods : 1 ≤ c.methods.count
  pub few_methods : c.methods.count ≤ 256
  pub some_nodes : 1 ≤ c.nodes.count
  pub few_nodes : c.nodes.count ≤ 1024
  pub few_edges : c.edges.count ≤ 4096
  pub few_rows : c.rows.count ≤ 16

pub counts_right : (c : Contents) → first_offence (count_tests c) ≡ None → Counted c
counts_right c e =
    let p = passed _ _ _ e in
    let q = passed _ _ _ p.1 in
    let r = passed _ _ _ q.1 in
    let s = passed _ _ _ r.1 in
    let m = and_parts _ _ p.0 in
    let n = and_parts _ _ q.0 in
    record {
      some_methods = leb-true _ _ m.0;
      few_methods = leb-true _ _ m.1;
      some_nodes = leb-true _ _ n.0;
      few_nodes = leb-true _ _ n.1;
      few_edges = leb-true _ _ r.0;
      few_rows = leb-true _ _ s.0;
    }

pub record Placed (c : Contents) (len : ℕ) : Type 0 where
  pub methods : c.methods.place ≡ 16
  pub nodes : c.nodes.place ≡ ends 4 c.methods
  pub edges : c.edges.place ≡ ends 8 c.nodes
  pub rows : c.rows.place ≡ ends 4 c.edges
  pub end : len ≡ ends 32 c.rows

pub places_right : (c : Contents) (len : ℕ) → first_offence (place_tests c len) ≡ None → Placed c len
places_right c len e =
    let p = passed _ _ _ e in
    let q = passed _ _ _ p.1 in
    let r = passed _ _ _ q.1 in
    let s = passed _ _ _ r.1 in
    let t = passed _ _ _ s.1 in
    record {
      methods = eqb-true _ _ p.0;
      nodes = eqb-true _ _ q.0;
      edges = eqb-true _ _ r.0;
      rows = eqb-true _ _ s.0;
      end = eqb-true _ _ t.0;
    }

-- take's stages after one another, where the file holds this table of contents: the counts, and then the places
module _ (bs : List ℕ) (c : Contents) (here : c ≡ contents_in bs) (long : 16 ≤ length bs) where
  stages : first_offence (take_tests bs) ≡ first_offence (count_tests c ++ place_tests c (length bs))
  stages = offence_past _ _ _ (le-leb 16 (length bs) long) ∙ ap (λ (c : Contents). first_offence (count_tests c ++ place_tests c (length bs))) (sym here)

  pub in_counts : (r : Refusal) → Some r ≡ first_offence (count_tests c) → Some r ≡ first_offence (take_tests bs)
  in_counts r e = sym (stages ∙ first_of_two _ _ r (sym e))

  pub in_places : None ≡ first_offence (count_tests c) → first_offence (place_tests c (length bs)) ≡ first_offence (take_tests bs)
  in_places e = sym (stages ∙ second_of_two _ _ (sym e))
