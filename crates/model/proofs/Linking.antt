-- Searches with more edges, with fewer and with the same: what stays sound, what fits in a table, and which hold the same facts.
use Rattle.std.proofs.Common.{◌≡◌, ℕ, true, false, List, [], take, ◌∙◌, ap₂, arith, IsPermutation}
use Rattle.std.proofs.lemmas.List.{length-map, get_or-map}
use Rattle.std.proofs.lemmas.Bool.{both_ways, false_from_ne_true}
use Rattle.model.specs.declared.Edge.{Edge}
use Rattle.model.specs.declared.Fact.{Fact}
use Rattle.model.specs.declared.Point.{Point}
use Rattle.model.specs.Facts.{Setting}
use Rattle.model.specs.Links.{Among, with_edges}
use Rattle.model.specs.Searches.{DerivedFrom, by_first, by_follow, by_enter, by_back, Sound, Told, Through, fact_in, Different, facts_of, unworked}
use Rattle.model.specs.Tables.{no_fact, is_held, Search}
use Rattle.model.proofs.Links.{more_yields}
use Rattle.model.proofs.Pigeons.{Within, pigeons, no_more}
use Rattle.model.proofs.Searching.{sound_grounded}
use Rattle.model.proofs.Telling.{fact_of, facts_differ, search_tells}

-- what a place past the end of a list of facts stands for
abbrev no_points : Point × Point
no_points = (record { node = 0; value = 0; state = 0 }, record { node = 0; value = 0; state = 0 })

module _ (X : Setting) (es : List Edge) (more : Among X.edges es) where
  -- what rows give they give with more edges
  more_derived : (rows : List Fact) {f : Fact} → DerivedFrom X rows f → DerivedFrom (with_edges X es) rows f
  more_derived rows (by_first n a) = by_first n a
  more_derived rows (by_follow i m lt g l) = by_follow i m lt g (more _ l)
  more_derived rows (by_enter i m lt g) = by_enter i m lt g
  more_derived rows (by_back i j m lt under g l) = by_back i j m lt under g (more _ l)

  -- facts that are yielded are held by a search that is through with more edges
  facts_within : (places : ℕ) (t : Search) (fs : List (Point × Point)) → Different X fs → Told (with_edges X es) places t → Through t → Within no_points fs (facts_of t.rows)
  facts_within places t fs differ told through i lt =
      let f = fact_in fs i in
      let h = told.exact through f.0 f.1 (more_yields X es more (differ.yielded i lt)) in
      let n = length-map t.rows fact_of in
      (h.0, omega (arith, h.1.0), get_or-map fact_of t.rows h.0 no_fact f h.1.0 ∙ ap₂ (λ (p q : Point). (p, q)) h.1.1 h.1.2)

-- what no rows give, the entries of main, is held
none_worked : (X : Setting) (es : List Edge) (places : ℕ) (s : Search) → Sound X places s → s.full ≡ false → {f : Fact} → DerivedFrom (with_edges X es) [] f → is_held s.rows f ≡ true
none_worked X es places s h free (by_first n a) = h.closed free _ (by_first n a)
none_worked X es places s h free (by_follow i m lt g l) = absurd (omega arith)
none_worked X es places s h free (by_enter i m lt g) = absurd (omega arith)
none_worked X es places s h free (by_back i j m lt under g l) = absurd (omega arith)

-- a search that is not full stays sound with more edges, all its facts to be worked again
pub links_sound : (X : Setting) (es : List Edge) (places : ℕ) (s : Search) → Sound X places s → s.full ≡ false → Among X.edges es → Sound (with_edges X es) places (unworked s)
links_sound X es places s h free more = record {
  derived = λ i lt. more_derived X es more (take i s.rows) (h.derived i lt);
  once = h.once;
  placed = h.placed;
  some = omega arith;
  closed = λ _ f d. none_worked X es places s h free d;
  beyond = λ full. absurd (both_ways s.full free full);
}

-- where a search that is through had room for all that is yielded, none with the same edges or fewer is full
pub links_fit : (X : Setting) (es : List Edge) (places : ℕ) (s t : Search) → Sound X places s → Through s → Sound (with_edges X es) places t → Among es X.edges → t.full ≡ false
links_fit X es places s t h through k fewer =
    false_from_ne_true t.full (λ full.
    let b = (search_tells (with_edges X es) places t k).beyond full in
    let few = no_more no_points b.1.0 (facts_of s.rows) b.1.2.apart (facts_within (with_edges X es) X.edges fewer places s b.1.0 b.1.2 (search_tells X places s h) through) in
    let n = length-map s.rows fact_of in
    let placed = h.placed in
    let past = b.1.1 in
    omega arith)

-- two searches that are through with the same edges hold the same facts
pub links_agree : (X : Setting) (es : List Edge) (places : ℕ) (s t : Search) → Sound X places s → Through s → Sound (with_edges X es) places t → Through t → Among es X.edges → Among X.edges es → IsPermutation (facts_of s.rows) (facts_of t.rows)
links_agree X es places s t h a k b fewer more =
    let differ = facts_differ X s.rows (sound_grounded X places s h) in
    let others = facts_differ (with_edges X es) t.rows (sound_grounded (with_edges X es) places t k) in
    let within = facts_within X es more places t (facts_of s.rows) differ (search_tells (with_edges X es) places t k) b in
    let back = facts_within (with_edges X es) X.edges fewer places s (facts_of t.rows) others (search_tells X places s h) a in
    pigeons no_points (facts_of s.rows) (facts_of t.rows) differ.apart within (no_more no_points (facts_of t.rows) (facts_of s.rows) others.apart back)
