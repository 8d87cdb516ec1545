-- The program that the bytes say, record by record, as the scans of check meet it.
use Rattle.std.proofs.Common.{◌≡◌, ℕ, zero, suc, ◌+◌, ◌<◌, ◌≤◌, Bool, true, false, not, ◌&&◌, ◌||◌, eqb, ltb, leb, List, length, get_or, Option, unwrap_or, sym, refl, ap, subst, ◌∙◌, inl, inr, zero-add, add-one, arith}
use Rattle.std.proofs.lemmas.Bool.{cases_lt, cases_eq, and_left, le-ltb}
use Rattle.std.proofs.lemmas.Bool.Decides.{nat_tests}
use Rattle.std.proofs.lemmas.List.FromFn.{length-map-range_with_len, get_or-map-range_with_len}
use Rattle.model.specs.declared.Edge.{Edge}
use Rattle.model.specs.declared.Method.{Method}
use Rattle.model.specs.Program.{no_method, no_node, no_edge, no_row, offset, home, node_at, method_at, is_edge, is_return, rises, rises_after}
use Rattle.model.proofs.Sums.{offset_step, offset_mono, home_span, home_within}
use Rattle.recipe.specs.Bytes.{count_in, method_in, node_in, edge_in, row_in, program_of, edges_of}
use Rattle.recipe.specs.declared.spans.Divided.{Divided}
use Rattle.recipe.specs.declared.spans.Span.{Span}
use Rattle.recipe.specs.Offence.{method_test, node_test, entry_test, edge_test, edge_before, record_fits, any_below}
use Rattle.recipe.specs.Spans.{Summed}

pub methods_length : (bs : List ℕ) → length (program_of bs).methods ≡ count_in bs 0
unfolding program_of
methods_length bs = length-map-range_with_len (method_in bs) 0 (count_in bs 0)

pub nodes_length : (bs : List ℕ) → length (program_of bs).nodes ≡ count_in bs 1
unfolding program_of
nodes_length bs = length-map-range_with_len _ 0 (count_in bs 1)

pub edges_length : (bs : List ℕ) → length (edges_of bs) ≡ count_in bs 2
unfolding edges_of
edges_length bs = length-map-range_with_len (edge_in bs) 0 (count_in bs 2)

pub rows_length : (bs : List ℕ) → length (program_of bs).rows ≡ count_in bs 3
unfolding program_of
rows_length bs = length-map-range_with_len (row_in bs) 0 (count_in bs 3)

pub method_at_lem : (bs : List ℕ) (k : ℕ) → k < count_in bs 0 → method_at (program_of bs) k ≡ method_in bs k
unfolding program_of
method_at_lem bs k lt = get_or-map-range_with_len (method_in bs) 0 (count_in bs 0) k k no_method lt (zero-add k)

pub node_at_lem : (bs : List ℕ) (n : ℕ) → n < count_in bs 1 → node_at (program_of bs) n ≡ unwrap_or (node_in bs n) no_node
unfolding program_of
node_at_lem bs n lt = get_or-map-range_with_len (λ n. unwrap_or (node_in bs n) no_node) 0 (count_in bs 1) n n no_node lt (zero-add n)

pub edge_at : (bs : List ℕ) (i : ℕ) → i < count_in bs 2 → get_or (edges_of bs) i no_edge ≡ edge_in bs i
unfolding edges_of
edge_at bs i lt = get_or-map-range_with_len (edge_in bs) 0 (count_in bs 2) i i no_edge lt (zero-add i)

pub row_at : (bs : List ℕ) (r : ℕ) → r < count_in bs 3 → get_or (program_of bs).rows r no_row ≡ row_in bs r
unfolding program_of
row_at bs r lt = get_or-map-range_with_len (row_in bs) 0 (count_in bs 3) r r no_row lt (zero-add r)

-- the sum of the node counts, one method on
pub sum_more : (bs : List ℕ) (k : ℕ) → k < count_in bs 0 → offset (program_of bs).methods (k + 1) ≡ offset (program_of bs).methods k + (method_in bs k).nodes
sum_more bs k lt =
    rw add-one (offset_step (program_of bs).methods k ∙ ap (λ (m : Method). offset (program_of bs).methods k + m.nodes) (method_at_lem bs k lt))

-- the test of a method over the running sum
pub method_test_lem : (bs : List ℕ) (k sum : ℕ) (own : Method) → k < count_in bs 0 → sum ≡ offset (program_of bs).methods k → own ≡ method_in bs k
    → method_test bs k ≡ (leb 1 own.nodes && (leb (sum + own.nodes) (count_in bs 1) && (ltb (k + 1) (count_in bs 0) || eqb (sum + own.nodes) (count_in bs 1))))
unfolding method_test
method_test_lem bs k sum own lt s o =
    let h : offset (program_of bs).methods (suc k) ≡ sum + own.nodes = rw add-one at (sum_more bs k lt) ∙ (λ i. sym s i + (sym o i).nodes) in
    λ i. leb 1 (sym o i).nodes && (leb (h i) (count_in bs 1) && (ltb (sym (add-one k) i) (count_in bs 0) || eqb (h i) (count_in bs 1)))

-- what a method's test tells: it has nodes, the sum up to it does not pass the node count, and at the last one reaches it
pub method_told : (bs : List ℕ) (k : ℕ) → method_test bs k ≡ true → (1 ≤ (method_in bs k).nodes) × (offset (program_of bs).methods (suc k) ≤ count_in bs 1) × (suc k ≡ count_in bs 0 → offset (program_of bs).methods (suc k) ≡ count_in bs 1)
unfolding method_test
method_told bs k e = grind (arith, nat_tests)

-- the methods' node counts add up to the node count
pub summed : (bs : List ℕ) → 1 ≤ count_in bs 0 → ((k : ℕ) → k < count_in bs 0 → method_test bs k ≡ true) → Summed bs
summed bs some pass = at_last (count_in bs 0) refl some
  where
    at_last : (n : ℕ) → n ≡ count_in bs 0 → 1 ≤ n → offset (program_of bs).methods n ≡ count_in bs 1
    at_last zero e low = absurd (omega arith)
    at_last (suc k) e low = (method_told bs k (pass k (omega arith))).2 e

-- a node within a span is of the span's method
pub home_in : (s : Span) (n : ℕ) → s.start ≤ n → n < s.end → home (program_of s.of.layout.now.file.now).methods n ≡ s.method
home_in s n low high =
    let ms = (program_of s.of.layout.now.file.now).methods in
    let l = methods_length s.of.layout.now.file.now in
    let e = add-one s.method in
    home_span ms n s.method (omega arith) (rw s.spans.1 at low) (rw (s.spans.2, e) at high)

-- the test of a node of a divided layout, over the span that it lies in
pub node_test_lem : (s : Span) (d : Divided) (n rights : ℕ) → s.of ≡ d → s.start ≤ n → n < s.end → rights ≡ (method_in s.of.layout.now.file.now s.method).rights
    → node_test d.layout.now.file.now n ≡ record_fits (count_in d.layout.now.file.now 0) rights (node_in d.layout.now.file.now n)
unfolding node_test
node_test_lem s d n rights same low high e =
    let bs = s.of.layout.now.file.now in
    let h = ap (λ k. (method_at (program_of bs) k).rights) (home_in s n low high) in
    let m = ap (λ (m : Method). m.rights) (method_at_lem bs s.method s.spans.0) in
    let t : node_test bs n ≡ record_fits (count_in bs 0) rights (node_in bs n) = ap (λ r. record_fits (count_in bs 0) r (node_in bs n)) (h ∙ m ∙ sym e) in
    subst (λ (d : Divided). node_test d.layout.now.file.now n ≡ record_fits (count_in d.layout.now.file.now 0) rights (node_in d.layout.now.file.now n)) same t

-- the nodes of each method end within the node count
pub span_within : (bs : List ℕ) → Summed bs → (k : ℕ) → k < count_in bs 0 → offset (program_of bs).methods (k + 1) ≤ count_in bs 1
span_within bs sum k lt = let h = offset_mono (program_of bs).methods (k + 1) (count_in bs 0) (omega arith) in omega arith

pub method_within : (d : Divided) (k first : ℕ) (own : Method) → k < count_in d.layout.now.file.now 0 → first ≡ offset (program_of d.layout.now.file.now).methods k → own ≡ method_in d.layout.now.file.now k → first + own.nodes ≤ count_in d.layout.now.file.now 1
method_within d k first own lt f o =
    let bs = d.layout.now.file.now in
    let n = ap (λ (m : Method). m.nodes) o in
    let h = sum_more bs k lt in
    let w = span_within bs d.sums k lt in
    omega arith

-- the test of a method's entries, over its first node and its record
pub entry_test_lem : (bs : List ℕ) (k first : ℕ) (own : Method) → first ≡ offset (program_of bs).methods k → own ≡ method_in bs k
    → entry_test bs k ≡ any_below own.nodes (λ j. (node_at (program_of bs) (first + j)).entry)
unfolding entry_test
entry_test_lem bs k first own f o = λ i. any_below (sym o i).nodes (λ j. (node_at (program_of bs) (sym f i + j)).entry)

-- the test of an edge from f to t, whose homes are hf and ht, over the span from st to en of the method m that f is of
edge_over : (f t n st en hf ht m : ℕ) (ret : Bool) → f < n → hf ≡ m → ((st ≤ t) → (t < en) → (t < n) × (ht ≡ m)) → (t < n → ht ≡ m → (st ≤ t) × (t < en))
    → (ltb f n && (ltb t n && (not ret && eqb hf ht))) ≡ (leb st t && (ltb t en && not ret))
edge_over f t n st en hf ht m ret lt e inside outside =
    elim (cases_lt t st) [
      | inl below ↦ elim (cases_lt t n) [
        | inl few ↦ elim (cases_eq ht m) [ inl same ↦ absurd (let o = outside few same in omega arith) | inr other ↦ grind (arith, nat_tests) ]
        | inr many ↦ grind (arith, nat_tests)
      ]
      | inr low ↦ elim (cases_lt t en) [
        | inl high ↦ let i = inside low high in grind (arith, nat_tests)
        | inr above ↦ elim (cases_lt t n) [
          | inl few ↦ elim (cases_eq ht m) [ inl same ↦ absurd (let o = outside few same in omega arith) | inr other ↦ grind (arith, nat_tests) ]
          | inr many ↦ grind (arith, nat_tests)
        ]
      ]
    ]

-- an edge that leaves a node of a span is one by the rules where it arrives in the span and leaves no return
pub edge_test_lem : (s : Span) (e : Edge) → s.start ≤ e.from → e.from < s.end
    → is_edge (program_of s.of.layout.now.file.now) e ≡ (leb s.start e.to && (ltb e.to s.end && not (is_return (node_at (program_of s.of.layout.now.file.now) e.from).kind)))
edge_test_lem s e low high =
    let bs = s.of.layout.now.file.now in
    let ms = (program_of bs).methods in
    let n = nodes_length bs in
    let l = methods_length bs in
    let some = add-one s.method in
    let last = span_within bs s.of.sums s.method s.spans.0 in
    edge_over e.from e.to (length (program_of bs).nodes) s.start s.end (home ms e.from) (home ms e.to) s.method _ (omega arith) (home_in s e.from low high)
    (λ a b. (omega arith, home_in s e.to a b))
    (λ few same.
    let w = home_within ms e.to (let g = ap (offset ms) l in omega arith) in
    let x : offset ms s.method ≤ e.to = rw same at w.1 in
    let y : e.to < offset ms (suc s.method) = rw same at w.2 in
    let z = ap (offset ms) some in
    (omega arith, omega arith))

-- the test of an edge record, over the edge and the one before it; and the same where a span says whether it is an edge
pub edge_record : (bs : List ℕ) (i : ℕ) (last : Option Edge) (e : Edge) → e ≡ edge_in bs i → last ≡ edge_before bs i → edge_test bs i ≡ (is_edge (program_of bs) e && rises_after last e)
unfolding edge_test
edge_record bs i last e f g = λ t. is_edge (program_of bs) (sym f t) && rises_after (sym g t) (sym f t)

pub edge_in_span : (s : Span) (d : Divided) (i : ℕ) (last : Option Edge) (e : Edge) (fits : Bool) → s.of ≡ d → e ≡ edge_in d.layout.now.file.now i → last ≡ edge_before d.layout.now.file.now i
    → fits ≡ is_edge (program_of s.of.layout.now.file.now) e → edge_test d.layout.now.file.now i ≡ (fits && rises_after last e)
edge_in_span s d i last e fits same f g h =
    let k = h ∙ ap (λ (d : Divided). is_edge (program_of d.layout.now.file.now) e) same in
    edge_record d.layout.now.file.now i last e f g ∙ ap (λ b. b && rises_after last e) (sym k)

-- no edge leaves from past the last node
pub far_edge : (bs : List ℕ) (e : Edge) → count_in bs 1 ≤ e.from → is_edge (program_of bs) e ≡ false
far_edge bs e far = let n = nodes_length bs in and_left _ _ (le-ltb e.from (length (program_of bs).nodes) (omega arith))

-- an edge that rises above another does not leave from before it
pub rises_from : (d e : Edge) → rises d e ≡ true → d.from ≤ e.from
rises_from d e h = grind (arith, nat_tests)
