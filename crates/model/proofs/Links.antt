-- Laws of links: a new edge at its rising place counts beside those that did, and with more edges there are more runs and more facts.
use Rattle.std.proofs.Common.{◌≡◌, ℕ, suc, ◌+◌, ◌≤◌, true, false, ◌&&◌, eqb, ◌⊎◌, List, [], ◌∷◌, ◌++◌, cond, length, take, drop, Some, None, Option, sym, refl, ap, ◌∙◌, subst, inl, inr, arith, Contains}
use Rattle.std.proofs.lemmas.List.Elements.{Contains-append_left, Contains-append_right, Contains-append_cases}
use Rattle.std.proofs.lemmas.List.{length-append, take-append-drop}
use Rattle.std.proofs.lemmas.Bool.{and_from, and_parts, or_parts, cond-true, cond-false, cases_Bool}
use Rattle.std.proofs.lemmas.Bool.Decides.{nat_tests}
use Rattle.model.specs.declared.Edge.{Edge}
use Rattle.model.specs.declared.Frame.{Frame}
use Rattle.model.specs.declared.Point.{Point}
use Rattle.model.specs.Facts.{Setting, Derives, first, follow, Yields, RunIn}
use Rattle.model.specs.Facts.{enter as derive_enter, back as derive_back}
use Rattle.model.specs.Links.{is_listed, place_after, linked, Among, with_edges, LinkLaws}
use Rattle.model.specs.Program.{Program, is_edge, rises, rises_after, counts, counted_after, counted}
use Rattle.model.specs.Runs.{start, pass, enter, back}
use Rattle.model.proofs.Lists.{has_here, has_later, has_cases}
use Rattle.model.proofs.Edges.{counted_yes, counted_no, counted_both}

-- of two edges that are not the same one rises above the other
rises_else : (d e : Edge) → (eqb d.from e.from && eqb d.to e.to) ≡ false → rises e d ≡ false → rises d e ≡ true
rises_else d e other under = grind (arith, nat_tests)

-- some edges are others with e put in between
abbrev PutIn : Edge → List Edge → List Edge → Type 0
PutIn e es fs = (front : List Edge) × (behind : List Edge) × (es ≡ front ++ behind) × (fs ≡ front ++ e ∷ behind)

-- the edges with a new one at its rising place, after a last one that counted
abbrev linked_after : Program → Option Edge → List Edge → Edge → List Edge
linked_after p last es e = take (place_after p last es e) es ++ e ∷ drop (place_after p last es e) es

-- that stays so with the same lists under other names
put_same : {e : Edge} {es fs gs hs : List Edge} → es ≡ gs → fs ≡ hs → PutIn e gs hs → PutIn e es fs
put_same a b h = (h.0, h.1, a ∙ h.2, b ∙ h.3)

-- and with one more edge in front of both
put_more : {e : Edge} {es fs : List Edge} (d : Edge) → PutIn e es fs → PutIn e (d ∷ es) (d ∷ fs)
put_more d h = (d ∷ h.0, h.1, ap (λ cs. d ∷ cs) h.2, ap (λ cs. d ∷ cs) h.3)

module _ (p : Program) (e : Edge) (right : is_edge p e ≡ true) where
  -- the new edge goes before an edge that counts and rises above it, and behind one that counts and does not, or that does not count
  put_next : (last : Option Edge) (d : Edge) (es : List Edge) → rises_after last e ≡ true → is_listed (counted_after p last (d ∷ es)) e ≡ false
      → (rises_after (Some d) e ≡ true → is_listed (counted_after p (Some d) es) e ≡ false → PutIn e (counted_after p (Some d) es) (counted_after p (Some d) (linked_after p (Some d) es e)))
      → (is_listed (counted_after p last es) e ≡ false → PutIn e (counted_after p last es) (counted_after p last (linked_after p last es e)))
      → (counts p last d ≡ true) ⊎ (counts p last d ≡ false) → (rises e d ≡ true) ⊎ (rises e d ≡ false) → PutIn e (counted_after p last (d ∷ es)) (counted_after p last (linked_after p last (d ∷ es) e))
  unfolding place_after
  put_next last d es above new kept passed (inl counting) (inl over) =
      let here = cond-true (counts p last d) (cond (rises e d) 0 (suc (place_after p (Some d) es e))) (suc (place_after p last es e)) counting ∙ cond-true (rises e d) 0 (suc (place_after p (Some d) es e)) over in (
        [],
        d ∷ counted_after p (Some d) es,
        counted_yes p last d es counting,
        ap (λ k. counted_after p last (take k (d ∷ es) ++ e ∷ drop k (d ∷ es))) here
            ∙ counted_yes p last e (d ∷ es) (and_from (is_edge p e) (rises_after last e) right above)
            ∙ ap (λ cs. e ∷ cs) (counted_yes p (Some e) d es (and_from (is_edge p d) (rises e d) (and_parts (is_edge p d) (rises_after last d) counting).0 over)),
      )
  put_next last d es above new kept passed (inl counting) (inr under) =
      let next = cond-true (counts p last d) (cond (rises e d) 0 (suc (place_after p (Some d) es e))) (suc (place_after p last es e)) counting ∙ cond-false (rises e d) 0 (suc (place_after p (Some d) es e)) under in
      let other = or_parts (eqb d.from e.from && eqb d.to e.to) (is_listed (counted_after p (Some d) es) e) (subst (λ cs. is_listed cs e ≡ false) (counted_yes p last d es counting) new) in
      put_same (counted_yes p last d es counting)
      (ap (λ k. counted_after p last (take k (d ∷ es) ++ e ∷ drop k (d ∷ es))) next ∙ counted_yes p last d (linked_after p (Some d) es e) counting)
      (put_more d (kept (rises_else d e other.0 under) other.1))
  put_next last d es above new kept passed (inr void) over =
      let next = cond-false (counts p last d) (cond (rises e d) 0 (suc (place_after p (Some d) es e))) (suc (place_after p last es e)) void in
      put_same (counted_no p last d es void)
      (ap (λ k. counted_after p last (take k (d ∷ es) ++ e ∷ drop k (d ∷ es))) next ∙ counted_no p last d (linked_after p last es e) void)
      (passed (subst (λ cs. is_listed cs e ≡ false) (counted_no p last d es void) new))

  -- of edges with a new one, which rises above the last one that counted and is none of those that count, those count that did, with the new one put in
  put_in : (last : Option Edge) (es : List Edge) → rises_after last e ≡ true → is_listed (counted_after p last es) e ≡ false → PutIn e (counted_after p last es) (counted_after p last (linked_after p last es e))
  unfolding counted_after place_after
  put_in last [] above new = ([], [], refl, counted_yes p last e [] (and_from (is_edge p e) (rises_after last e) right above))
  put_in last (d ∷ es) above new = put_next last d es above new (put_in (Some d) es) (put_in last es above) (cases_Bool (counts p last d)) (cases_Bool (rises e d))

  -- the same of all the edges
  counted_linked : (es : List Edge) → is_listed (counted p es) e ≡ false → PutIn e (counted p es) (counted p (linked p es e))
  counted_linked es new = put_in None es refl new

-- of a list with one edge more than another, put in, the length
put_length : {e : Edge} {es fs : List Edge} → PutIn e es fs → length fs ≡ length es + 1
put_length {e = e} h = ap length h.3 ∙ length-append h.0 (e ∷ h.1) ∙ omega (arith, ap length h.2, length-append h.0 h.1)

-- no more edges count than there are, and where as many do, all of them do
counted_few : (p : Program) (last : Option Edge) (es : List Edge) → length (counted_after p last es) ≤ length es
unfolding counted_after
counted_few p last [] = omega arith
counted_few p last (d ∷ es) =
    let kept = counted_few p (Some d) es in
    let passed = counted_few p last es in
    counted_both p last d es (λ cs. length cs ≤ suc (length es)) (λ right above. omega arith) (omega arith)

counted_whole : (p : Program) (last : Option Edge) (es : List Edge) → length (counted_after p last es) ≡ length es → counted_after p last es ≡ es
unfolding counted_after
counted_whole p last [] h = refl
counted_whole p last (d ∷ es) h =
    let passed = counted_few p last es in
    counted_both p last d es (λ cs. length cs ≡ suc (length es) → cs ≡ d ∷ es)
    (λ right above same. ap (λ cs. d ∷ cs) (counted_whole p (Some d) es (omega arith))) (λ same. absurd (omega arith)) h

-- there is one edge more than before
linked_length : (p : Program) (es : List Edge) (e : Edge) → length (linked p es e) ≡ length es + 1
linked_length p es e =
    let k = place_after p None es e in
    let whole = sym (length-append (take k es) (drop k es)) ∙ ap length (take-append-drop k es) in
    length-append (take k es) (e ∷ drop k es) ∙ omega arith

-- where all edges count, all of them do with a new one
linked_all : (p : Program) (es : List Edge) (e : Edge) → is_edge p e ≡ true → is_listed (counted p es) e ≡ false → counted p es ≡ es → counted p (linked p es e) ≡ linked p es e
linked_all p es e right new all =
    let more = put_length (counted_linked p e right es new) in
    counted_whole p None (linked p es e) (more ∙ ap (λ ds. length ds + 1) all ∙ sym (linked_length p es e))

-- edges with e put in have e
put_has : {e : Edge} {es fs : List Edge} → PutIn e es fs → Contains fs e
put_has {e = e} h = rw h.3 (Contains-append_right h.0 (e ∷ h.1) e (has_here e h.1))

-- they have what the others have
put_old : {e : Edge} {es fs : List Edge} → PutIn e es fs → Among es fs
put_old {e = e} {es = es} {fs = fs} h d had = by (Contains-append_cases h.0 h.1 d (subst (λ cs. Contains cs d) h.2 had))
  where
    by : Contains h.0 d ⊎ Contains h.1 d → Contains fs d
    by (inl before) = rw h.3 (Contains-append_left h.0 (e ∷ h.1) d before)
    by (inr after) = rw h.3 (Contains-append_right h.0 (e ∷ h.1) d (has_later e h.1 d after))

-- and they have nothing else
put_only : {e : Edge} {es fs : List Edge} → PutIn e es fs → (d : Edge) → Contains fs d → Contains es d ⊎ (d ≡ e)
put_only {e = e} {es = es} {fs = fs} h d has = by (Contains-append_cases h.0 (e ∷ h.1) d (subst (λ cs. Contains cs d) h.3 has))
  where
    later : (e ≡ d) ⊎ Contains h.1 d → Contains es d ⊎ (d ≡ e)
    later (inl same) = inr (sym same)
    later (inr after) = inl (rw h.2 (Contains-append_right h.0 h.1 d after))

    by : Contains h.0 d ⊎ Contains (e ∷ h.1) d → Contains es d ⊎ (d ≡ e)
    by (inl before) = inl (rw h.2 (Contains-append_left h.0 h.1 d before))
    by (inr behind) = later (has_cases e h.1 d behind)

module _ (X : Setting) (es : List Edge) (more : Among X.edges es) where
  -- a run is one with more edges too
  more_runs : {t : List ℕ} {fs : List Frame} {q : ℕ} → RunIn X t fs q → RunIn (with_edges X es) t fs q
  more_runs (start a) = start a
  more_runs (pass m r g l) = pass m (more_runs r) g (more _ l)
  more_runs (enter m r g) = enter m (more_runs r) g
  more_runs (back m r a b l) = back m (more_runs r) a b (more _ l)

  -- so is a derivation
  more_derives : {s x : Point} {l b : List ℕ} → Derives X s x l b → Derives (with_edges X es) s x l b
  more_derives (first n a) = first n a
  more_derives (follow m d g l) = follow m (more_derives d) g (more _ l)
  more_derives (derive_enter m d g) = derive_enter m (more_derives d) g
  more_derives (derive_back m to d g e r l) = derive_back m to (more_derives d) g (more_derives e) r (more _ l)

  -- and what is yielded is yielded with more edges
  pub more_yields : {s x : Point} → Yields X s x → Yields (with_edges X es) s x
  more_yields y = (y.0, y.1, more_derives y.2)

-- all that a link keeps and adds
pub link_laws : LinkLaws
link_laws = record {
  longer = linked_length;
  counts_new = λ p es e right new. put_has (counted_linked p e right es new);
  counts_old = λ p es e right new. put_old (counted_linked p e right es new);
  counts_only = λ p es e d right new. put_only (counted_linked p e right es new) d;
  counts_more = λ p es e right new. put_length (counted_linked p e right es new);
  all_count = linked_all;
  more_runs = λ X es more. more_runs X es more;
  more_facts = λ X es more. more_yields X es more;
}
