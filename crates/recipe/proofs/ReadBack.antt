-- What is read back of a written file: the program and the edges that it was written for, and that it passes every test of take and of check.
use Rattle.std.proofs.Common.{◌≡◌, ℕ, zero, suc, ◌+◌, ◌-◌, ◌*◌, ◌/◌, ◌%◌, ◌<◌, ◌≤◌, Bool, true, false, ◌&&◌, ◌||◌, eqb, ltb, leb, ◌⊎◌, List, [], ◌∷◌, ◌++◌, length, get_or, Some, None, unwrap_or, sym, refl, ap, ◌∙◌, inl, inr, add-zero, arith, lit<, length-append}
use lib.Bits.{bit_and}
use Rattle.std.specs.List.{flat_map, AllByRecursion as All}
use Rattle.std.specs.Option.{option_or}
use Rattle.std.proofs.lemmas.List.FromFn.{fill_by_all}
use Rattle.std.proofs.lemmas.List.{append-nil}
use Rattle.std.proofs.lemmas.Bool.{lt-ltb, le-leb, eq-eqb, and_from, or_left, or_right, cond-true, cases_lt}
use Rattle.model.specs.declared.Edge.{Edge}
use Rattle.model.specs.declared.Kind.{Kind}
use Rattle.model.specs.declared.Kind.TheVariants.{Nop, Call, Check, Return}
use Rattle.model.specs.declared.Method.{Method}
use Rattle.model.specs.declared.Node.{Node}
use Rattle.model.specs.Lawful.{Lawful, KindRules, CellRules}
use Rattle.model.specs.Program.{Program, no_method, no_node, no_edge, no_row, method_at, node_at, offset, rights_of, is_edge, rises, rises_after}
use Rattle.model.proofs.Edges.{edge_passes, rise_passes}
use Rattle.model.proofs.Sums.{offset_step, offset_mono}
use Rattle.recipe.specs.Bytes.{byte_at, word_at, place_in, count_in, nodes_at, edges_at, rows_at, method_in, edge_in, cell_in, kind_of, with_mark, record_of, record_at, node_in, listed, row_in, program_of, edges_of}
use Rattle.recipe.specs.Format.{method_bytes, kind_number, flags_of, operands, node_bytes, edge_bytes, row_bytes, contents_bytes, bytes_of, Legal}
use Rattle.recipe.specs.Offence.{first_offence, each, between, any_below, take_tests, check_tests, method_test, node_test, entry_test, edge_test, row_test, kind_fits, record_fits, cell_test, edge_before}
use Rattle.recipe.specs.declared.grounds.Refusal.{Refusal}
use Rattle.recipe.specs.declared.grounds.Refusal.TheVariants.{BadMethod, BadNode, BadEdge, BadRow}
use Rattle.recipe.proofs.Firsts.{offence_past, offence_append, each_none}
use Rattle.recipe.proofs.Layers.{get_d_after, Wide, length_joined, get_or_joined, all_below_from, any_below_from}

-- the widths of the records
method_wide : (m : Method) → length (method_bytes m) ≡ 4
method_wide m = refl

pub node_wide : (n : Node) → length (node_bytes n) ≡ 8
node_wide n = by_kind n.kind
  where
    by_kind : (k : Kind) → suc (suc (suc (length (operands k)))) ≡ 8
    by_kind Nop = refl
    by_kind (Call callee grant accept privileged) = refl
    by_kind (Check required) = refl
    by_kind Return = refl

edge_wide : (e : Edge) → length (edge_bytes e) ≡ 4
edge_wide e = refl

-- a kind is what its number, flags and operands say
pub kind_decoded : (k : Kind) (entry : Bool) → kind_of (kind_number k) (flags_of entry k) (get_or (operands k) 0 0) (word_at (operands k) 1) (word_at (operands k) 3) ≡ Some k
kind_decoded Nop true = refl
kind_decoded Nop false = refl
kind_decoded (Call callee grant accept privileged) entry =
    let g : grant / 256 * 256 + grant % 256 ≡ grant = omega arith in
    let a : accept / 256 * 256 + accept % 256 ≡ accept = omega arith in
    flagged entry privileged ∙ (λ i. Some (Call callee (g i) (a i) privileged))
  where
    flagged : (e v : Bool) → kind_of 1 (flags_of e (Call callee grant accept v)) callee (grant / 256 * 256 + grant % 256) (accept / 256 * 256 + accept % 256) ≡ Some (Call callee (grant / 256 * 256 + grant % 256) (accept / 256 * 256 + accept % 256) v)
    flagged true true = refl
    flagged true false = refl
    flagged false true = refl
    flagged false false = refl
kind_decoded (Check required) true = let g : required / 256 * 256 + required % 256 ≡ required = omega arith in λ i. Some (Check (g i))
kind_decoded (Check required) false = let g : required / 256 * 256 + required % 256 ≡ required = omega arith in λ i. Some (Check (g i))
kind_decoded Return true = refl
kind_decoded Return false = refl

-- flag 1 is entry, whatever the kind
pub entry_decoded : (k : Kind) (entry : Bool) → eqb (flags_of entry k % 2) 1 ≡ entry
entry_decoded Nop true = refl
entry_decoded Nop false = refl
entry_decoded (Call callee grant accept true) true = refl
entry_decoded (Call callee grant accept false) true = refl
entry_decoded (Call callee grant accept true) false = refl
entry_decoded (Call callee grant accept false) false = refl
entry_decoded (Check required) true = refl
entry_decoded (Check required) false = refl
entry_decoded Return true = refl
entry_decoded Return false = refl

pub node_decoded : (n : Node) → n.mark < 32 → record_at (node_bytes n) 0 ≡ Some n
node_decoded n h =
    let m : ltb n.mark 32 ≡ true = lt-ltb n.mark 32 h in
    (λ i. with_mark (kind_decoded n.kind n.entry i) n.mark (flags_of n.entry n.kind))
    ∙ cond-true (ltb n.mark 32) (Some (record { kind = n.kind; mark = n.mark; entry = eqb (flags_of n.entry n.kind % 2) 1 })) None m
    ∙ (λ i. Some (record { kind = n.kind; mark = n.mark; entry = entry_decoded n.kind n.entry i }))

module _ (p : Program) (es : List Edge) where
  pub count_methods : count_in (bytes_of p es) 0 ≡ length p.methods
  unfolding bytes_of
  count_methods = omega arith

  pub count_nodes : count_in (bytes_of p es) 1 ≡ length p.nodes
  unfolding bytes_of
  count_nodes = omega arith

  pub count_edges : count_in (bytes_of p es) 2 ≡ length es
  unfolding bytes_of
  count_edges = omega arith

  pub count_rows : count_in (bytes_of p es) 3 ≡ length p.rows
  unfolding bytes_of
  count_rows = omega arith

  pub place_methods : place_in (bytes_of p es) 0 ≡ 16
  unfolding bytes_of
  place_methods = refl

  pub place_nodes : place_in (bytes_of p es) 1 ≡ nodes_at (bytes_of p es)
  unfolding bytes_of
  place_nodes = omega arith

  pub place_edges : place_in (bytes_of p es) 2 ≡ edges_at (bytes_of p es)
  unfolding bytes_of
  place_edges = omega arith

  pub place_rows : place_in (bytes_of p es) 3 ≡ rows_at (bytes_of p es)
  unfolding bytes_of
  place_rows = omega arith

  -- the bodies one by one, with what follows them
  abbrev rows_part : List ℕ
  rows_part = flat_map row_bytes p.rows

  abbrev edges_part : List ℕ
  edges_part = flat_map edge_bytes es ++ rows_part

  abbrev nodes_part : List ℕ
  nodes_part = flat_map node_bytes p.nodes ++ edges_part

  length_methods : length (flat_map method_bytes p.methods) ≡ 4 * length p.methods
  length_methods = length_joined method_bytes 4 no_method p.methods (λ k l. method_wide (method_at p k))

  length_nodes : length (flat_map node_bytes p.nodes) ≡ 8 * length p.nodes
  length_nodes = length_joined node_bytes 8 no_node p.nodes (λ k l. node_wide (node_at p k))

  pub length_edges : length (flat_map edge_bytes es) ≡ 4 * length es
  length_edges = length_joined edge_bytes 4 no_edge es (λ k l. edge_wide (get_or es k no_edge))

  -- where each body begins
  from_methods : (i j : ℕ) → 16 + i ≡ j → byte_at (bytes_of p es) j ≡ get_or (flat_map method_bytes p.methods ++ nodes_part) i 0
  unfolding bytes_of
  from_methods i j e = get_d_after (contents_bytes (length p.methods) (length p.nodes) (length es) (length p.rows)) (flat_map method_bytes p.methods ++ nodes_part) 16 i j 0 refl e

  from_nodes : (i j : ℕ) → nodes_at (bytes_of p es) + i ≡ j → byte_at (bytes_of p es) j ≡ get_or nodes_part i 0
  from_nodes i j e =
      let m = count_methods in
      from_methods (4 * length p.methods + i) j (omega arith)
      ∙ get_d_after (flat_map method_bytes p.methods) nodes_part (4 * length p.methods) i (4 * length p.methods + i) 0 length_methods refl

  from_edges : (i j : ℕ) → edges_at (bytes_of p es) + i ≡ j → byte_at (bytes_of p es) j ≡ get_or edges_part i 0
  from_edges i j e =
      let m = count_nodes in
      from_nodes (8 * length p.nodes + i) j (omega arith)
      ∙ get_d_after (flat_map node_bytes p.nodes) edges_part (8 * length p.nodes) i (8 * length p.nodes + i) 0 length_nodes refl

  from_rows : (i j : ℕ) → rows_at (bytes_of p es) + i ≡ j → byte_at (bytes_of p es) j ≡ get_or rows_part i 0
  from_rows i j e =
      let m = count_edges in
      from_edges (4 * length es + i) j (omega arith)
      ∙ get_d_after (flat_map edge_bytes es) rows_part (4 * length es) i (4 * length es + i) 0 length_edges refl

  -- byte i of each method, node, edge and row, by number
  pub byte_of_method : (k i j : ℕ) → k < length p.methods → i < 4 → 16 + 4 * k + i ≡ j → byte_at (bytes_of p es) j ≡ get_or (method_bytes (method_at p k)) i 0
  byte_of_method k i j l m e =
      from_methods (4 * k + i) j (omega arith)
      ∙ get_or_joined method_bytes 4 no_method p.methods nodes_part k i (4 * k + i) (λ a b. method_wide (method_at p a)) l m refl

  pub byte_of_node : (n i j : ℕ) → n < length p.nodes → i < 8 → nodes_at (bytes_of p es) + 8 * n + i ≡ j → byte_at (bytes_of p es) j ≡ get_or (node_bytes (node_at p n)) i 0
  byte_of_node n i j l m e =
      from_nodes (8 * n + i) j (omega arith)
      ∙ get_or_joined node_bytes 8 no_node p.nodes edges_part n i (8 * n + i) (λ a b. node_wide (node_at p a)) l m refl

  pub byte_of_edge : (k i j : ℕ) → k < length es → i < 4 → edges_at (bytes_of p es) + 4 * k + i ≡ j → byte_at (bytes_of p es) j ≡ get_or (edge_bytes (get_or es k no_edge)) i 0
  byte_of_edge k i j l m e =
      from_edges (4 * k + i) j (omega arith)
      ∙ get_or_joined edge_bytes 4 no_edge es rows_part k i (4 * k + i) (λ a b. edge_wide (get_or es a no_edge)) l m refl

  pub method_read : (k : ℕ) → k < length p.methods → method_in (bytes_of p es) k ≡ method_at p k
  method_read k l =
      let a = byte_of_method k 0 (16 + 4 * k) l (lit< tt) (omega arith) in
      let b = byte_of_method k 1 (16 + 4 * k + 1) l (lit< tt) refl in
      let c = byte_of_method k 2 (16 + 4 * k + 2) l (lit< tt) refl in
      let d = byte_of_method k 3 (16 + 4 * k + 2 + 1) l (lit< tt) (omega arith) in
      let x : word_at (bytes_of p es) (16 + 4 * k) ≡ (method_at p k).rights = omega arith in
      let y : word_at (bytes_of p es) (16 + 4 * k + 2) ≡ (method_at p k).nodes = omega arith in
      λ i. record { rights = x i; nodes = y i }

  pub edge_read : (k : ℕ) → k < length es → edge_in (bytes_of p es) k ≡ get_or es k no_edge
  edge_read k l =
      let at = edges_at (bytes_of p es) + 4 * k in
      let a = byte_of_edge k 0 at l (lit< tt) (omega arith) in
      let b = byte_of_edge k 1 (at + 1) l (lit< tt) refl in
      let c = byte_of_edge k 2 (at + 2) l (lit< tt) refl in
      let d = byte_of_edge k 3 (at + 2 + 1) l (lit< tt) (omega arith) in
      let x : word_at (bytes_of p es) at ≡ (get_or es k no_edge).from = omega arith in
      let y : word_at (bytes_of p es) (at + 2) ≡ (get_or es k no_edge).to = omega arith in
      λ i. record { from = x i; to = y i }

  pub node_read : (n : ℕ) → n < length p.nodes → (node_at p n).mark < 32 → node_in (bytes_of p es) n ≡ Some (node_at p n)
  node_read n l h =
      let at = nodes_at (bytes_of p es) + 8 * n in
      (λ i. record_of (byte_of_node n 0 at l (lit< tt) (add-zero at) i) (byte_of_node n 1 (at + 1) l (lit< tt) refl i)
      (byte_of_node n 2 (at + 2) l (lit< tt) refl i) (byte_of_node n 3 (at + 3) l (lit< tt) refl i)
      (byte_of_node n 4 (at + 4) l (lit< tt) refl i) (byte_of_node n 5 (at + 5) l (lit< tt) refl i)
      (byte_of_node n 6 (at + 6) l (lit< tt) refl i) (byte_of_node n 7 (at + 7) l (lit< tt) refl i))
      ∙ node_decoded (node_at p n) h

-- rows are as wide as the rules say
rows_wide : (p : Program) (es : List Edge) → Lawful p es → Wide row_bytes 32 no_row p.rows
rows_wide p es law k l = (law.row k l).wide

pub cell_read : (p : Program) (es : List Edge) → Lawful p es → (r c : ℕ) → r < length p.rows → c < 32 → cell_in (bytes_of p es) r c ≡ get_or (get_or p.rows r no_row) c 0
cell_read p es law r c l m =
    let h : get_or (rows_part p es) (32 * r + c) 0 ≡ get_or (get_or p.rows r no_row) c 0 =
    rw append-nil at (get_or_joined row_bytes 32 no_row p.rows [] r c (32 * r + c) (rows_wide p es law) l m refl) in
    from_rows p es (32 * r + c) (rows_at (bytes_of p es) + 32 * r + c) (omega arith) ∙ h

pub row_read : (p : Program) (es : List Edge) → Lawful p es → (r : ℕ) → r < length p.rows → row_in (bytes_of p es) r ≡ get_or p.rows r no_row
row_read p es law r l =
    sym (fill_by_all (cell_in (bytes_of p es) r) (get_or p.rows r no_row) 32 0 (law.row r l).wide (λ c m. sym (cell_read p es law r c l m)))

pub read_program : (p : Program) (es : List Edge) → Lawful p es → program_of (bytes_of p es) ≡ p
unfolding program_of
read_program p es law =
    let bs = bytes_of p es in
    let ms : listed (method_in bs) (count_in bs 0) ≡ p.methods =
    sym (fill_by_all (method_in bs) p.methods (count_in bs 0) no_method (sym (count_methods p es))
    (λ k l. sym (method_read p es k (omega (arith, count_methods p es))))) in
    let ns : listed (λ n. unwrap_or (node_in bs n) no_node) (count_in bs 1) ≡ p.nodes =
    sym (fill_by_all (λ n. unwrap_or (node_in bs n) no_node) p.nodes (count_in bs 1) no_node (sym (count_nodes p es))
    (λ n l. let m : n < length p.nodes = omega (arith, count_nodes p es) in
    sym (ap (λ o. unwrap_or o no_node) (node_read p es n m (law.node n m).0)))) in
    let rs : listed (row_in bs) (count_in bs 3) ≡ p.rows =
    sym (fill_by_all (row_in bs) p.rows (count_in bs 3) no_row (sym (count_rows p es))
    (λ r l. sym (row_read p es law r (omega (arith, count_rows p es))))) in
    λ i. record { methods = ms i; nodes = ns i; rows = rs i }

pub read_edges : (p : Program) (es : List Edge) → Lawful p es → edges_of (bytes_of p es) ≡ es
unfolding edges_of
read_edges p es law =
    sym (fill_by_all (edge_in (bytes_of p es)) es (count_in (bytes_of p es) 2) no_edge (sym (count_edges p es))
    (λ k l. sym (edge_read p es k (omega (arith, count_edges p es)))))

pub length_bytes : (p : Program) (es : List Edge) → Lawful p es → length (bytes_of p es) ≡ 16 + 4 * length p.methods + 8 * length p.nodes + 4 * length es + 32 * length p.rows
unfolding bytes_of
length_bytes p es law =
    omega (
      arith,
      length-append (flat_map method_bytes p.methods) (nodes_part p es),
      length-append (flat_map node_bytes p.nodes) (edges_part p es),
      length-append (flat_map edge_bytes es) (rows_part p es),
      length_methods p es,
      length_nodes p es,
      length_edges p es,
      length_joined row_bytes 32 no_row p.rows (rows_wide p es law),
    )

-- where each test passes, nothing is refused
pub none_of_all : (ts : List (Bool × Refusal)) → All (λ t. t.0 ≡ true) ts → first_offence ts ≡ None
unfolding first_offence
none_of_all [] h = refl
none_of_all (t ∷ ts) h = offence_past t.0 t.1 ts h.0 ∙ none_of_all ts h.1

-- a number within its limits passes
within : (low high n : ℕ) → low ≤ n → n ≤ high → between low high n ≡ true
within low high n h k = and_from (leb low n) (leb n high) (le-leb low n h) (le-leb n high k)

pub take_passes : (p : Program) (es : List Edge) → Lawful p es → first_offence (take_tests (bytes_of p es)) ≡ None
take_passes p es law =
    let m = count_methods p es in
    let n = count_nodes p es in
    let e = count_edges p es in
    let r = count_rows p es in
    let l = length_bytes p es law in
    none_of_all (take_tests (bytes_of p es)) (
      le-leb _ _ (omega arith),
      (
        within 1 256 (count_in (bytes_of p es) 0) (omega arith) (omega arith),
        (
          within 1 1024 (count_in (bytes_of p es) 1) (omega arith) (omega arith),
          (
            le-leb _ _ (omega arith),
            (
              le-leb _ _ (omega arith),
              (
                eq-eqb _ _ (place_methods p es),
                (
                  eq-eqb _ _ (omega (arith, place_methods p es, place_nodes p es)),
                  (
                    eq-eqb _ _ (omega (arith, place_nodes p es, place_edges p es)),
                    (
                      eq-eqb _ _ (omega (arith, place_edges p es, place_rows p es)),
                      (
                        eq-eqb _ _ (omega (arith, place_rows p es)),
                        tt,
                      ),
                    ),
                  ),
                ),
              ),
            ),
          ),
        ),
      ),
    )

-- a kind that obeys its rules passes
pub kind_passes : (methods rights : ℕ) (k : Kind) → KindRules methods rights k → kind_fits methods rights k ≡ true
kind_passes methods rights Nop h = refl
kind_passes methods rights (Call callee grant accept privileged) h =
    let a : ltb callee methods ≡ true = lt-ltb callee methods h.0 in
    let b : eqb (bit_and grant rights) grant ≡ true = eq-eqb (bit_and grant rights) grant h.1 in
    let c : eqb (bit_and accept rights) accept ≡ true = eq-eqb (bit_and accept rights) accept h.2 in
    rw (a, b, c)
kind_passes methods rights (Check required) h = refl
kind_passes methods rights Return h = refl

cell_passes : (p : Program) (c : ℕ) → CellRules p c → (ltb c (length p.rows) || eqb c 255) ≡ true
cell_passes p c (inl h) = or_left (ltb c (length p.rows)) (eqb c 255) (lt-ltb c (length p.rows) h)
cell_passes p c (inr h) = or_right (ltb c (length p.rows)) (eqb c 255) (eq-eqb c 255 h)

module _ (p : Program) (es : List Edge) (law : Lawful p es) where
  abbrev bs : List ℕ
  bs = bytes_of p es

  -- the sum up to method k is at most the number of nodes, and at the last method it is that number
  pub sum_passes : (k : ℕ) → k < length p.methods → (offset p.methods (suc k) ≤ length p.nodes) × ((suc k < length p.methods) ⊎ (offset p.methods (suc k) ≡ length p.nodes))
  sum_passes k l = (omega (arith, offset_mono p.methods (suc k) (length p.methods) l, law.summing), last (cases_lt (suc k) (length p.methods)))
    where
      last : (suc k < length p.methods) ⊎ (length p.methods ≤ suc k) → (suc k < length p.methods) ⊎ (offset p.methods (suc k) ≡ length p.nodes)
      last (inl h) = inl h
      last (inr h) = let e : suc k ≡ length p.methods = omega arith in inr (rw e law.summing)

  -- the offsets read back are those of the program
  pub offset_read : (k : ℕ) → offset (program_of (bytes_of p es)).methods k ≡ offset p.methods k
  offset_read k = ap (λ q. offset q.methods k) (read_program p es law)

  pub method_passes : (k : ℕ) → k < length p.methods → method_test (bytes_of p es) k ≡ true
  unfolding method_test
  method_passes k l =
      let some : 1 ≤ (method_in bs k).nodes = omega (arith, ap (λ m. m.nodes) (method_read p es k l), (law.method k l).some) in
      let sum = offset (program_of bs).methods (suc k) in
      let upto : sum ≤ count_in bs 1 = omega (arith, offset_read (suc k), count_nodes p es, (sum_passes k l).0) in
      and_from (leb 1 (method_in bs k).nodes) (leb sum (count_in bs 1) && (ltb (suc k) (count_in bs 0) || eqb sum (count_in bs 1)))
      (le-leb 1 (method_in bs k).nodes some)
      (and_from (leb sum (count_in bs 1)) (ltb (suc k) (count_in bs 0) || eqb sum (count_in bs 1)) (le-leb sum (count_in bs 1) upto) (last (sum_passes k l).1))
    where
      last : (suc k < length p.methods) ⊎ (offset p.methods (suc k) ≡ length p.nodes) → (ltb (suc k) (count_in bs 0) || eqb (offset (program_of bs).methods (suc k)) (count_in bs 1)) ≡ true
      last (inl h) = or_left (ltb (suc k) (count_in bs 0)) (eqb (offset (program_of bs).methods (suc k)) (count_in bs 1)) (lt-ltb (suc k) (count_in bs 0) (omega (arith, count_methods p es)))
      last (inr h) = or_right (ltb (suc k) (count_in bs 0)) (eqb (offset (program_of bs).methods (suc k)) (count_in bs 1)) (eq-eqb (offset (program_of bs).methods (suc k)) (count_in bs 1) (omega (arith, offset_read (suc k), count_nodes p es)))

  pub node_passes : (n : ℕ) → n < length p.nodes → node_test (bytes_of p es) n ≡ true
  unfolding node_test
  node_passes n l =
      (λ i. record_fits (count_methods p es i) (rights_of (read_program p es law i) n) (node_read p es n l (law.node n l).0 i))
      ∙ kind_passes (length p.methods) (rights_of p n) (node_at p n).kind (law.node n l).1

  pub entry_passes : (k : ℕ) → k < length p.methods → entry_test (bytes_of p es) k ≡ true
  unfolding entry_test
  entry_passes k l =
      let at = offset p.methods k in
      let e = (law.method k l).entry in
      let s = offset_step p.methods k in
      let f : at + (e.0 - at) ≡ e.0 = omega arith in
      (λ i. any_below (method_read p es k l i).nodes (λ j. (node_at (read_program p es law i) (offset (read_program p es law i).methods k + j)).entry))
      ∙ any_below_from (method_at p k).nodes (λ j. (node_at p (at + j)).entry) (e.0 - at) (omega arith) (rw f e.3)

  pub edge_test_passes : (i : ℕ) → i < length es → edge_test (bytes_of p es) i ≡ true
  unfolding edge_test
  edge_test_passes i l =
      and_from (is_edge (program_of bs) (edge_in bs i)) (rises_after (edge_before bs i) (edge_in bs i))
      ((λ j. is_edge (read_program p es law j) (edge_read p es i l j)) ∙ edge_passes p (get_or es i no_edge) (law.edge i l))
      (rising i l)
    where
      rising : (k : ℕ) → k < length es → rises_after (edge_before bs k) (edge_in bs k) ≡ true
      rising zero h = refl
      rising (suc k) h =
          (λ j. rises (edge_read p es k (omega arith) j) (edge_read p es (suc k) h j)) ∙ rise_passes (get_or es k no_edge) (get_or es (suc k) no_edge) (law.rising k h)

  pub row_passes : (r : ℕ) → r < length p.rows → row_test (bytes_of p es) r ≡ true
  unfolding row_test
  row_passes r l = all_below_from 32 (cell_test bs r) (λ c m.
      (λ i. ltb (cell_read p es law r c l m i) (count_rows p es i) || eqb (cell_read p es law r c l m i) 255)
      ∙ cell_passes p (get_or (get_or p.rows r no_row) c 0) ((law.row r l).cells c m))

-- where nothing is refused of either list, nothing is refused of both
pub both_none : (xs ys : List (Bool × Refusal)) → first_offence xs ≡ None → first_offence ys ≡ None → first_offence (xs ++ ys) ≡ None
both_none xs ys a b = offence_append xs ys ∙ (λ i. option_or (a i) (b i))

pub check_passes : (p : Program) (es : List Edge) → Lawful p es → first_offence (check_tests (bytes_of p es)) ≡ None
check_passes p es law =
    let bs = bytes_of p es in
    let methods = each (count_in bs 0) (method_test bs) BadMethod in
    let nodes = each (count_in bs 1) (node_test bs) BadNode in
    let entries = each (count_in bs 0) (entry_test bs) BadMethod in
    let edges = each (count_in bs 2) (edge_test bs) BadEdge in
    let rows = each (count_in bs 3) (row_test bs) BadRow in
    both_none methods (nodes ++ (entries ++ (edges ++ rows)))
    (each_none (method_test bs) BadMethod (count_in bs 0) (λ k h. method_passes p es law k (omega (arith, count_methods p es))))
    (both_none nodes (entries ++ (edges ++ rows))
    (each_none (node_test bs) BadNode (count_in bs 1) (λ k h. node_passes p es law k (omega (arith, count_nodes p es))))
    (both_none entries (edges ++ rows)
    (each_none (entry_test bs) BadMethod (count_in bs 0) (λ k h. entry_passes p es law k (omega (arith, count_methods p es))))
    (both_none edges rows
    (each_none (edge_test bs) BadEdge (count_in bs 2) (λ k h. edge_test_passes p es law k (omega (arith, count_edges p es))))
    (each_none (row_test bs) BadRow (count_in bs 3) (λ k h. row_passes p es law k (omega (arith, count_rows p es)))))))

pub legal_passes : (bs : List ℕ) → Legal bs → (first_offence (take_tests bs) ≡ None) × (first_offence (check_tests bs) ≡ None)
legal_passes file legal = (
  ap (λ xs. first_offence (take_tests xs)) legal.3 ∙ take_passes legal.0 legal.1 legal.2,
  ap (λ xs. first_offence (check_tests xs)) legal.3 ∙ check_passes legal.0 legal.1 legal.2,
)
