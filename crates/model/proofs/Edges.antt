-- Laws of the edges that count: the tests say what the rules say, and what counts of a list is right and rises.
use Rattle.std.proofs.Common.{◌≡◌, ℕ, zero, suc, ◌<◌, ◌≤◌, true, false, not, ◌&&◌, eqb, ltb, ◌⊎◌, List, [], ◌∷◌, length, get_or, Some, None, Option, refl, ap, ◌∙◌, inl, inr, arith}
use Rattle.std.proofs.lemmas.Bool.{ltb-true, eqb-true, lt-ltb, eq-eqb, not-true, and_parts, and_from, or_cases, or_left, or_right, cond-true, cond-false, cond_both}
use Rattle.model.specs.declared.Edge.{Edge}
use Rattle.model.specs.Lawful.{Lawful}
use Rattle.model.specs.Program.{Program, no_edge, node_at, home, is_return, EdgeRules, is_edge, Rises, rises, rises_after, counts, counted_after, counted}

-- the rules for an edge pass as a test
pub edge_passes : (p : Program) (e : Edge) → EdgeRules p e → is_edge p e ≡ true
edge_passes p e h =
    let a : ltb e.from (length p.nodes) ≡ true = lt-ltb e.from (length p.nodes) h.leaves in
    let b : ltb e.to (length p.nodes) ≡ true = lt-ltb e.to (length p.nodes) h.arrives in
    let c : is_return (node_at p e.from).kind ≡ false = h.goes_on in
    let d : eqb (home p.methods e.from) (home p.methods e.to) ≡ true = eq-eqb (home p.methods e.from) (home p.methods e.to) h.stays in
    rw (a, b, c, d)

-- what passes the test is an edge by the rules
pub edge_rules : (p : Program) (e : Edge) → is_edge p e ≡ true → EdgeRules p e
edge_rules p e h =
    let n = length p.nodes in
    let on = not (is_return (node_at p e.from).kind) in
    let same = eqb (home p.methods e.from) (home p.methods e.to) in
    let a = and_parts (ltb e.from n) (ltb e.to n && (on && same)) h in
    let b = and_parts (ltb e.to n) (on && same) a.1 in
    let c = and_parts on same b.1 in
    record {
      leaves = ltb-true e.from n a.0;
      arrives = ltb-true e.to n b.0;
      goes_on = not-true (is_return (node_at p e.from).kind) c.0;
      stays = eqb-true (home p.methods e.from) (home p.methods e.to) c.1;
    }

-- an edge that rises above another passes as a test, and what passes rises
pub rise_passes : (d e : Edge) → Rises d e → rises d e ≡ true
rise_passes d e (inl h) = or_left (ltb d.from e.from) (eqb d.from e.from && ltb d.to e.to) (lt-ltb d.from e.from h)
rise_passes d e (inr h) =
    or_right (ltb d.from e.from) (eqb d.from e.from && ltb d.to e.to)
    (and_from (eqb d.from e.from) (ltb d.to e.to) (eq-eqb d.from e.from h.0) (lt-ltb d.to e.to h.1))

pub rise_rules : (d e : Edge) → rises d e ≡ true → Rises d e
rise_rules d e h = by (or_cases (ltb d.from e.from) (eqb d.from e.from && ltb d.to e.to) h)
  where
    by : (ltb d.from e.from ≡ true) ⊎ ((eqb d.from e.from && ltb d.to e.to) ≡ true) → Rises d e
    by (inl a) = inl (ltb-true d.from e.from a)
    by (inr b) =
        let c = and_parts (eqb d.from e.from) (ltb d.to e.to) b in
        inr (eqb-true d.from e.from c.0, ltb-true d.to e.to c.1)

-- steps of a scan: an edge that counts is kept and becomes the last, and one that does not is passed over
pub counted_yes : (p : Program) (last : Option Edge) (e : Edge) (es : List Edge) → counts p last e ≡ true → counted_after p last (e ∷ es) ≡ e ∷ counted_after p (Some e) es
unfolding counted_after
counted_yes p last e es h = cond-true (counts p last e) (e ∷ counted_after p (Some e) es) (counted_after p last es) h

pub counted_no : (p : Program) (last : Option Edge) (e : Edge) (es : List Edge) → counts p last e ≡ false → counted_after p last (e ∷ es) ≡ counted_after p last es
unfolding counted_after
counted_no p last e es h = cond-false (counts p last e) (e ∷ counted_after p (Some e) es) (counted_after p last es) h

-- a fact of what counts holds if it does both where the first edge is kept and where it is passed over
pub counted_both : (p : Program) (last : Option Edge) (e : Edge) (es : List Edge) (P : List Edge → Type 0) → (is_edge p e ≡ true → rises_after last e ≡ true → P (e ∷ counted_after p (Some e) es)) → P (counted_after p last es) → P (counted_after p last (e ∷ es))
unfolding counted_after
counted_both p last e es P kept passed =
    cond_both (counts p last e) (e ∷ counted_after p (Some e) es) (counted_after p last es) P
    (λ h. let a = and_parts (is_edge p e) (rises_after last e) h in kept a.0 a.1) (λ h. passed)

-- each edge of these is one by the rules
abbrev Ruled : Program → List Edge → Type 0
Ruled p es = (i : ℕ) → i < length es → EdgeRules p (get_or es i no_edge)

-- these edges rise strictly
abbrev Rising : List Edge → Type 0
Rising es = (i : ℕ) → suc i < length es → Rises (get_or es i no_edge) (get_or es (suc i) no_edge)

-- the first of these, if any, rises above d
abbrev Above : Edge → List Edge → Type 0
Above d es = 0 < length es → Rises d (get_or es 0 no_edge)

ruled_more : (p : Program) (e : Edge) (es : List Edge) → EdgeRules p e → Ruled p es → Ruled p (e ∷ es)
ruled_more p e es first rest zero lt = first
ruled_more p e es first rest (suc i) lt = rest i (omega arith)

rising_more : (e : Edge) (es : List Edge) → Above e es → Rising es → Rising (e ∷ es)
rising_more e es first rest zero lt = first (omega arith)
rising_more e es first rest (suc i) lt = rest i (omega arith)

-- each edge that counts is one by the rules
pub counted_rules : (p : Program) (last : Option Edge) (es : List Edge) (i : ℕ) → i < length (counted_after p last es) → EdgeRules p (get_or (counted_after p last es) i no_edge)
unfolding counted_after
counted_rules p last [] = λ i lt. absurd (omega arith)
counted_rules p last (e ∷ es) =
    counted_both p last e es (Ruled p)
    (λ right above. ruled_more p e (counted_after p (Some e) es) (edge_rules p e right) (counted_rules p (Some e) es))
    (counted_rules p last es)

-- the first that counts after a last one rises above it
pub counted_first : (p : Program) (d : Edge) (es : List Edge) → 0 < length (counted_after p (Some d) es) → Rises d (get_or (counted_after p (Some d) es) 0 no_edge)
unfolding counted_after
counted_first p d [] = λ lt. absurd (omega arith)
counted_first p d (e ∷ es) = counted_both p (Some d) e es (Above d) (λ right above lt. rise_rules d e above) (counted_first p d es)

-- the edges that count rise strictly
pub counted_rising : (p : Program) (last : Option Edge) (es : List Edge) (i : ℕ) → suc i < length (counted_after p last es) → Rises (get_or (counted_after p last es) i no_edge) (get_or (counted_after p last es) (suc i) no_edge)
unfolding counted_after
counted_rising p last [] = λ i lt. absurd (omega arith)
counted_rising p last (e ∷ es) =
    counted_both p last e es Rising
    (λ right above. rising_more e (counted_after p (Some e) es) (counted_first p e es) (counted_rising p (Some e) es))
    (counted_rising p last es)

-- no more edges count than there are
pub counted_length : (p : Program) (last : Option Edge) (es : List Edge) → length (counted_after p last es) ≤ length es
unfolding counted_after
counted_length p last [] = omega arith
counted_length p last (e ∷ es) =
    let kept = counted_length p (Some e) es in
    let passed = counted_length p last es in
    counted_both p last e es (λ cs. length cs ≤ suc (length es)) (λ right above. omega arith) (omega arith)

-- edges that are right already, and the first of which rises above the last, all count
whole_after : (p : Program) (last : Option Edge) (es : List Edge) → (0 < length es → rises_after last (get_or es 0 no_edge) ≡ true) → Ruled p es → Rising es → counted_after p last es ≡ es
unfolding counted_after
whole_after p last [] first right rising = refl
whole_after p last (e ∷ es) first right rising =
    counted_yes p last e es (and_from (is_edge p e) (rises_after last e) (edge_passes p e (right 0 (omega arith))) (first (omega arith)))
    ∙ ap (λ cs. e ∷ cs) (whole_after p (Some e) es (λ lt. rise_passes e (get_or es 0 no_edge) (rising 0 (omega arith)))
    (λ i lt. right (suc i) (omega arith)) (λ i lt. rising (suc i) (omega arith)))

-- edges that are right already all count
pub counted_whole : (p : Program) (es : List Edge) → ((i : ℕ) → i < length es → EdgeRules p (get_or es i no_edge)) → ((i : ℕ) → suc i < length es → Rises (get_or es i no_edge) (get_or es (suc i) no_edge)) → counted p es ≡ es
counted_whole p es right rising = whole_after p None es (λ lt. refl) right rising

pub lawful_counted : (p : Program) (es : List Edge) → Lawful p es → counted p es ≡ es
lawful_counted p es law = counted_whole p es law.edge law.rising

-- a lawful program stays lawful with the edges of any short list that count
pub lawful_with : (p : Program) (es fs : List Edge) → Lawful p es → length fs ≤ 4096 → Lawful p (counted p fs)
lawful_with p es fs law few =
    let less = counted_length p None fs in
    record {
      some_method = law.some_method;
      few_methods = law.few_methods;
      some_node = law.some_node;
      few_nodes = law.few_nodes;
      few_edges = omega arith;
      few_rows = law.few_rows;
      method = law.method;
      summing = law.summing;
      node = law.node;
      edge = counted_rules p None fs;
      rising = counted_rising p None fs;
      row = law.row;
    }

-- going through a list: an edge that counts comes next, one that does not is passed over, and where no edge is left none counts
pub next_counts : (p : Program) (last : Option Edge) (edges : List Edge) (e : Edge) (others : List Edge) → edges ≡ e ∷ others → counts p last e ≡ true → counted_after p last edges ≡ e ∷ counted_after p (Some e) others
next_counts p last edges e others h c = ap (counted_after p last) h ∙ counted_yes p last e others c

pub next_passed : (p : Program) (last : Option Edge) (edges : List Edge) (e : Edge) (others : List Edge) → edges ≡ e ∷ others → counts p last e ≡ false → counted_after p last edges ≡ counted_after p last others
next_passed p last edges e others h c = ap (counted_after p last) h ∙ counted_no p last e others c

pub next_none : (p : Program) (last : Option Edge) (edges : List Edge) → length edges ≡ 0 → counted_after p last edges ≡ []
unfolding counted_after
next_none p last [] none = refl
next_none p last (e ∷ es) none = absurd (omega arith)
