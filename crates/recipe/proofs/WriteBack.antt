-- A file that take and check refuse nothing of is legal: it is what is written for the program and the edges that its bytes say, and these are lawful.
use Rattle.std.proofs.Common.{◌≡◌, ℕ, suc, ◌+◌, ◌*◌, ◌<◌, ◌≤◌, true, eqb, ltb, List, ◌∷◌, ◌++◌, length, drop, Some, None, Option, unwrap_or, sym, refl, ap, ◌∙◌, inl, inr, arith}
use lib.Bits.{bit_and}
use Rattle.std.proofs.lemmas.List.{append-nil, drop_all}
use Rattle.std.proofs.lemmas.List.FromFn.{length-map-range_with_len, get_or-map-range_with_len}
use Rattle.std.proofs.lemmas.Bool.{and_parts, ltb-true, eqb-true, or_cases}
use Rattle.std.specs.List.{flat_map}
use Rattle.model.specs.declared.Kind.{Kind}
use Rattle.model.specs.declared.Method.{Method}
use Rattle.model.specs.declared.Node.{Node}
use Rattle.model.specs.Program.{no_node, method_at, node_at, offset, rights_of, is_edge, rises_after}
use Rattle.model.specs.Lawful.{Lawful, KindRules, NodeRules, MethodRules, CellRules, RowRules}
use Rattle.recipe.specs.declared.grounds.Refusal.TheVariants.{BadMethod, BadNode, BadEdge, BadRow}
use Rattle.recipe.specs.Bytes.{byte_at, word_at, place_in, count_in, nodes_at, edges_at, rows_at, end_at, method_in, edge_in, cell_in, node_in, row_in, listed, program_of, edges_of, record_at}
use Rattle.recipe.specs.Format.{word, method_bytes, node_bytes, edge_bytes, row_bytes, contents_bytes, bytes_of, Legal}
use Rattle.recipe.specs.Offence.{first_offence, each, check_tests, method_test, node_test, entry_test, edge_test, row_test, cell_test, kind_fits, record_fits, edge_before}
use Rattle.recipe.proofs.Chunks.{chunks, drop_read, drop_four, drop_eight}
use Rattle.recipe.proofs.Firsts.{none_of_both, each_passes}
use Rattle.recipe.proofs.Decoding.{Small, Told, is_nop, is_call, is_check_lem, is_return_lem, told_at, high_low, record_bytes}
use Rattle.recipe.proofs.Layers.{any_below_some, all_below_at}
use Rattle.recipe.proofs.Scans.{methods_length, nodes_length, edges_length, rows_length, method_at_lem, node_at_lem, edge_at, row_at, method_told, summed}
use Rattle.model.proofs.Sums.{offset_step}
use Rattle.model.proofs.Edges.{edge_rules, rise_rules}

-- what take's tests tell where none fails
pub record Taken (bs : List ℕ) : Type 0 where
  pub long : 16 ≤ length bs
  pub methods_low : 1 ≤ count_in bs 0
  pub methods_high : count_in bs 0 ≤ 256
  pub nodes_low : 1 ≤ count_in bs 1
  pub nodes_high : count_in bs 1 ≤ 1024
  pub edges_high : count_in bs 2 ≤ 4096
  pub rows_high : count_in bs 3 ≤ 16
  pub at_0 : place_in bs 0 ≡ 16
  pub at_1 : place_in bs 1 ≡ nodes_at bs
  pub at_2 : place_in bs 2 ≡ edges_at bs
  pub at_3 : place_in bs 3 ≡ rows_at bs
  pub whole : length bs ≡ end_at bs

-- what check's tests tell where none fails
pub record Checked (bs : List ℕ) : Type 0 where
  pub methods : (k : ℕ) → k < count_in bs 0 → method_test bs k ≡ true
  pub nodes : (n : ℕ) → n < count_in bs 1 → node_test bs n ≡ true
  pub entries : (k : ℕ) → k < count_in bs 0 → entry_test bs k ≡ true
  pub edges : (i : ℕ) → i < count_in bs 2 → edge_test bs i ≡ true
  pub rows : (r : ℕ) → r < count_in bs 3 → row_test bs r ≡ true

pub checked : (bs : List ℕ) → first_offence (check_tests bs) ≡ None → Checked bs
checked bs e =
    let h0 = none_of_both (each (count_in bs 0) (method_test bs) BadMethod) _ e in
    let h1 = none_of_both (each (count_in bs 1) (node_test bs) BadNode) _ h0.1 in
    let h2 = none_of_both (each (count_in bs 0) (entry_test bs) BadMethod) _ h1.1 in
    let h3 = none_of_both (each (count_in bs 2) (edge_test bs) BadEdge) (each (count_in bs 3) (row_test bs) BadRow) h2.1 in
    record {
      methods = each_passes (method_test bs) BadMethod (count_in bs 0) h0.0;
      nodes = each_passes (node_test bs) BadNode (count_in bs 1) h1.0;
      entries = each_passes (entry_test bs) BadMethod (count_in bs 0) h2.0;
      edges = each_passes (edge_test bs) BadEdge (count_in bs 2) h3.0;
      rows = each_passes (row_test bs) BadRow (count_in bs 3) h3.1;
    }

-- two bytes make a number below 65,536
pub word_small : (bs : List ℕ) → Small bs → (i : ℕ) → word_at bs i < 65536
word_small bs s i = let a = s i in let b = s (i + 1) in omega arith

-- a record that fits is a node
fits_some : (methods rights : ℕ) (o : Option Node) → record_fits methods rights o ≡ true → o ≡ Some (unwrap_or o no_node)
fits_some methods rights None e = let z : ◌≡◌ {A = ℕ} 0 1 = cc in absurd (omega arith)
fits_some methods rights (Some n) e = refl

-- each node record of a checked file is a node, the program's
pub node_some : (bs : List ℕ) → Checked bs → (n : ℕ) → n < count_in bs 1 → node_in bs n ≡ Some (node_at (program_of bs) n)
unfolding node_test
node_some bs c n lt = fits_some (count_in bs 0) (rights_of (program_of bs) n) (node_in bs n) (c.nodes n lt) ∙ ap Some (sym (node_at_lem bs n lt))

-- a kind that a record says and that fits may hold what it holds
pub kind_rules : (methods rights kind flags callee grant accept : ℕ) (k : Kind) → grant < 65536 → Told kind flags callee grant accept k → kind_fits methods rights k ≡ true → KindRules methods rights k
kind_rules methods rights kind flags callee grant accept _ g (is_nop _ _ _ _ _) t = tt
kind_rules methods rights kind flags callee grant accept _ g (is_call _ _) t =
    let a = and_parts (ltb callee methods) _ t in
    let b = and_parts (eqb (bit_and grant rights) grant) (eqb (bit_and accept rights) accept) a.1 in
    (ltb-true callee methods a.0, eqb-true (bit_and grant rights) grant b.0, eqb-true (bit_and accept rights) accept b.1)
kind_rules methods rights kind flags callee grant accept _ g (is_check_lem _ _ _ _) t = g
kind_rules methods rights kind flags callee grant accept _ g (is_return_lem _ _ _ _ _) t = tt

module _ (bs : List ℕ) (s : Small bs) (t : Taken bs) (c : Checked bs) where
  -- each method, node, cell, row and edge of a checked file obeys its rules
  pub method_rules : (k : ℕ) → k < count_in bs 0 → MethodRules (program_of bs) k
  unfolding entry_test
  method_rules k lt =
      let m = method_at_lem bs k lt in
      let told = method_told bs k (c.methods k lt) in
      let f = any_below_some (method_in bs k).nodes (λ j. (node_at (program_of bs) (offset (program_of bs).methods k + j)).entry) (c.entries k lt) in
      let w = word_small bs s (16 + 4 * k) in
      let more = offset_step (program_of bs).methods k in
      let same : (method_at (program_of bs) k).nodes ≡ (method_in bs k).nodes = ap (λ (m : Method). m.nodes) m in
      record {
        rights = rw m w;
        some = rw m told.0;
        entry = (offset (program_of bs).methods k + f.0, omega arith, omega arith, f.2);
      }

  pub node_rules : (n : ℕ) → n < count_in bs 1 → NodeRules (length (program_of bs).methods) (rights_of (program_of bs) n) (node_at (program_of bs) n)
  unfolding node_test
  node_rules n lt =
      let some = node_some bs c n lt in
      let i = nodes_at bs + 8 * n in
      let r = told_at bs i (node_at (program_of bs) n) some in
      let fit : kind_fits (count_in bs 0) (rights_of (program_of bs) n) (node_at (program_of bs) n).kind ≡ true = rw some at (c.nodes n lt) in
      let small : byte_at bs (i + 4) * 256 + byte_at bs (i + 5) < 65536 = omega (arith, s (i + 4), s (i + 5)) in
      rw (methods_length bs) (omega arith, kind_rules (count_in bs 0) (rights_of (program_of bs) n) _ _ _ _ _ (node_at (program_of bs) n).kind small r.kind_is fit)

  pub cell_rules : (r : ℕ) → r < count_in bs 3 → (k : ℕ) → k < 32 → CellRules (program_of bs) (cell_in bs r k)
  unfolding row_test
  cell_rules r lt k few =
      let h = all_below_at 32 (cell_test bs r) (c.rows r lt) k few in
      elim (or_cases (ltb (cell_in bs r k) (count_in bs 3)) (eqb (cell_in bs r k) 255) h) [
        | inl h ↦ inl (rw (rows_length bs) (ltb-true (cell_in bs r k) (count_in bs 3) h))
        | inr h ↦ inr (eqb-true (cell_in bs r k) 255 h)
      ]

  pub row_rules : (r : ℕ) → r < count_in bs 3 → RowRules (program_of bs) (row_in bs r)
  row_rules r lt = record {
    wide = length-map-range_with_len (cell_in bs r) 0 32;
    cells = λ k few. rw (get_or-map-range_with_len (cell_in bs r) 0 32 k k 0 few (omega arith)) (cell_rules r lt k few);
  }

  pub edge_told : (i : ℕ) → i < count_in bs 2 → (is_edge (program_of bs) (edge_in bs i) ≡ true) × (rises_after (edge_before bs i) (edge_in bs i) ≡ true)
  unfolding edge_test
  edge_told i lt = and_parts (is_edge (program_of bs) (edge_in bs i)) (rises_after (edge_before bs i) (edge_in bs i)) (c.edges i lt)

  -- the program and the edges that the bytes say obey the rules
  pub lawful : Lawful (program_of bs) (edges_of bs)
  lawful =
      let ms = methods_length bs in
      let ns = nodes_length bs in
      let es = edges_length bs in
      let rs = rows_length bs in
      record {
        some_method = omega arith;
        few_methods = omega arith;
        some_node = omega arith;
        few_nodes = omega arith;
        few_edges = omega arith;
        few_rows = omega arith;
        method = λ k lt. method_rules k (omega arith);
        summing = ap (offset (program_of bs).methods) ms ∙ summed bs t.methods_low c.methods ∙ sym ns;
        node = λ n lt. node_rules n (omega arith);
        edge = λ i lt. let h : i < count_in bs 2 = omega arith in rw (edge_at bs i h) (edge_rules (program_of bs) (edge_in bs i) (edge_told i h).0);
        rising = λ i lt.
            let h : i < count_in bs 2 = omega arith in
            let h' : suc i < count_in bs 2 = omega arith in
            rw (edge_at bs i h, edge_at bs (suc i) h') (rise_rules (edge_in bs i) (edge_in bs (suc i)) (edge_told (suc i) h').1);
        row = λ r lt. let h : r < count_in bs 3 = omega arith in rw (row_at bs r h) (row_rules r h);
      }

-- the bytes of a file from a place on: two words, and a node's record
module _ (bs : List ℕ) (s : Small bs) where
  pub words_at : (i j : ℕ) → i + 2 ≡ j → i + 4 ≤ length bs → drop i bs ≡ (word (word_at bs i) ++ word (word_at bs j)) ++ drop (i + 4) bs
  words_at i j e le =
      let f : i + 3 ≡ j + 1 = omega arith in
      let a = high_low (byte_at bs i) (byte_at bs (i + 1)) (s (i + 1)) in
      let b = high_low (byte_at bs j) (byte_at bs (j + 1)) (s (j + 1)) in
      drop_four 0 bs i le
      ∙ (λ t. byte_at bs i ∷ byte_at bs (i + 1) ∷ byte_at bs (e t) ∷ byte_at bs (f t) ∷ drop (i + 4) bs)
      ∙ (λ t. (sym a t ++ sym b t) ++ drop (i + 4) bs)

  pub node_bytes_at : (i : ℕ) (n : Node) → record_at bs i ≡ Some n → i + 8 ≤ length bs → drop i bs ≡ node_bytes n ++ drop (i + 8) bs
  node_bytes_at i n e le =
      let r = record_bytes (byte_at bs i) (byte_at bs (i + 1)) (byte_at bs (i + 2)) (byte_at bs (i + 3)) (byte_at bs (i + 4)) (byte_at bs (i + 5)) (byte_at bs (i + 6)) (byte_at bs (i + 7)) (s (i + 5)) (s (i + 7)) n e in
      drop_eight 0 bs i le ∙ ap (λ front. front ++ drop (i + 8) bs) (sym r)

-- the table of contents with these places and counts
abbrev entries : ℕ → ℕ → ℕ → ℕ → ℕ → ℕ → ℕ → ℕ → List ℕ
entries p0 c0 p1 c1 p2 c2 p3 c3 = (word p0 ++ word c0) ++ ((word p1 ++ word c1) ++ ((word p2 ++ word c2) ++ (word p3 ++ word c3)))

module _ (bs : List ℕ) (s : Small bs) (t : Taken bs) (c : Checked bs) where
  -- the table of contents, and each body, is what is written for what it says
  pub contents_written : bs ≡ contents_bytes (count_in bs 0) (count_in bs 1) (count_in bs 2) (count_in bs 3) ++ drop 16 bs
  contents_written =
      words_at bs s 0 2 refl (omega arith)
      ∙ ap (λ rest. (word (place_in bs 0) ++ word (count_in bs 0)) ++ rest) (words_at bs s 4 6 refl (omega arith)
      ∙ ap (λ rest. (word (place_in bs 1) ++ word (count_in bs 1)) ++ rest) (words_at bs s 8 10 refl (omega arith)
      ∙ ap (λ rest. (word (place_in bs 2) ++ word (count_in bs 2)) ++ rest) (words_at bs s 12 14 refl (omega arith))))
      ∙ (λ i. entries (t.at_0 i) (count_in bs 0) (t.at_1 i) (count_in bs 1) (t.at_2 i) (count_in bs 2) (t.at_3 i) (count_in bs 3) ++ drop 16 bs)

  pub methods_written : drop 16 bs ≡ flat_map method_bytes (listed (method_in bs) (count_in bs 0)) ++ drop (nodes_at bs) bs
  methods_written = chunks method_bytes (method_in bs) (λ k. 16 + 4 * k) bs (count_in bs 0) (λ k lt.
      let e : 16 + 4 * k + 4 ≡ 16 + 4 * (k + 1) = omega arith in
      words_at bs s (16 + 4 * k) (16 + 4 * k + 2) refl (omega arith) ∙ ap (λ j. method_bytes (method_in bs k) ++ drop j bs) e)

  pub nodes_written : drop (nodes_at bs) bs ≡ flat_map node_bytes (listed (λ n. unwrap_or (node_in bs n) no_node) (count_in bs 1)) ++ drop (edges_at bs) bs
  unfolding node_test
  nodes_written =
      let start : nodes_at bs ≡ nodes_at bs + 8 * 0 = omega arith in
      ap (λ i. drop i bs) start
      ∙ chunks node_bytes (λ n. unwrap_or (node_in bs n) no_node) (λ n. nodes_at bs + 8 * n) bs (count_in bs 1) (λ n lt.
      let e : nodes_at bs + 8 * n + 8 ≡ nodes_at bs + 8 * (n + 1) = omega arith in
      let some = fits_some (count_in bs 0) (rights_of (program_of bs) n) (node_in bs n) (c.nodes n lt) in
      node_bytes_at bs s (nodes_at bs + 8 * n) (unwrap_or (node_in bs n) no_node) some (omega arith) ∙ ap (λ j. node_bytes (unwrap_or (node_in bs n) no_node) ++ drop j bs) e)

  pub edges_written : drop (edges_at bs) bs ≡ flat_map edge_bytes (listed (edge_in bs) (count_in bs 2)) ++ drop (rows_at bs) bs
  edges_written =
      let start : edges_at bs ≡ edges_at bs + 4 * 0 = omega arith in
      ap (λ i. drop i bs) start
      ∙ chunks edge_bytes (edge_in bs) (λ i. edges_at bs + 4 * i) bs (count_in bs 2) (λ i lt.
      let e : edges_at bs + 4 * i + 4 ≡ edges_at bs + 4 * (i + 1) = omega arith in
      words_at bs s (edges_at bs + 4 * i) (edges_at bs + 4 * i + 2) refl (omega arith) ∙ ap (λ j. edge_bytes (edge_in bs i) ++ drop j bs) e)

  pub rows_written : drop (rows_at bs) bs ≡ flat_map row_bytes (listed (row_in bs) (count_in bs 3)) ++ drop (end_at bs) bs
  rows_written =
      let start : rows_at bs ≡ rows_at bs + 32 * 0 = omega arith in
      ap (λ i. drop i bs) start
      ∙ chunks row_bytes (row_in bs) (λ r. rows_at bs + 32 * r) bs (count_in bs 3) (λ r lt.
      let e : rows_at bs + 32 * r + 32 ≡ rows_at bs + 32 * (r + 1) = omega arith in
      drop_read 0 bs (rows_at bs + 32 * r) 32 (omega arith) ∙ ap (λ j. row_bytes (row_in bs r) ++ drop j bs) e)

  -- the file of the program that the bytes say, with these counts in its table of contents
  abbrev file : ℕ → ℕ → ℕ → ℕ → List ℕ
  file methods nodes edges rows =
      contents_bytes methods nodes edges rows
      ++ (flat_map method_bytes (listed (method_in bs) (count_in bs 0)) ++ (flat_map node_bytes (listed (λ n. unwrap_or (node_in bs n) no_node) (count_in bs 1)) ++ (flat_map edge_bytes (listed (edge_in bs) (count_in bs 2)) ++ flat_map row_bytes (listed (row_in bs) (count_in bs 3)))))

  -- the bytes are the ones written for the program and the edges that they say
  pub written : bs ≡ bytes_of (program_of bs) (edges_of bs)
  unfolding bytes_of program_of edges_of
  written =
      contents_written
      ∙ ap (λ rest. contents_bytes (count_in bs 0) (count_in bs 1) (count_in bs 2) (count_in bs 3) ++ rest) (methods_written
      ∙ ap (λ rest. flat_map method_bytes (listed (method_in bs) (count_in bs 0)) ++ rest) (nodes_written
      ∙ ap (λ rest. flat_map node_bytes (listed (λ n. unwrap_or (node_in bs n) no_node) (count_in bs 1)) ++ rest) (edges_written
      ∙ ap (λ rest. flat_map edge_bytes (listed (edge_in bs) (count_in bs 2)) ++ rest) (rows_written
      ∙ ap (λ rest. flat_map row_bytes (listed (row_in bs) (count_in bs 3)) ++ rest) (drop_all (end_at bs) bs (omega arith))
      ∙ append-nil (flat_map row_bytes (listed (row_in bs) (count_in bs 3)))))))
      ∙ (λ i. file (sym (methods_length bs) i) (sym (nodes_length bs) i) (sym (edges_length bs) i) (sym (rows_length bs) i))

-- a file of which take and check refuse nothing is legal
pub legal : (bs : List ℕ) → Small bs → Taken bs → Checked bs → Legal bs
legal bs s t c = (program_of bs, edges_of bs, lawful bs s t c, written bs s t c)
