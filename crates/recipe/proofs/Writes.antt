-- The file that write puts together, piece by piece, is the file of the recipe's program with the edges that count.
use Rattle.std.proofs.Common.{◌≡◌, ℕ, ◌+◌, ◌-◌, ◌*◌, ◌≤◌, List, [], ◌++◌, length, take, drop, subst, sym, refl, ap, ◌∙◌, append_assoc, arith, length-append, length-drop, length-take}
use Rattle.std.specs.List.{flat_map}
use Rattle.std.proofs.lemmas.List.{take_at, append-nil, take_all, drop_all}
use Rattle.model.specs.declared.Edge.{Edge}
use Rattle.model.specs.Lawful.{Lawful}
use Rattle.model.specs.Program.{counted}
use Rattle.model.proofs.Edges.{lawful_with, lawful_counted}
use Rattle.recipe.specs.declared.Recipe.{Recipe}
use Rattle.recipe.specs.Bytes.{edges_at, end_at, program_of, edges_of}
use Rattle.recipe.specs.Format.{method_bytes, node_bytes, edge_bytes, row_bytes, contents_bytes, bytes_of, Legal}
use Rattle.recipe.specs.Recipes.{file_of, program, own_edges}
use Rattle.recipe.specs.Writing.{listed_edges, file_with, AllCount, FileOf}
use Rattle.recipe.proofs.Pieces.{put_after}
use Rattle.recipe.proofs.Places.{laid, edges_place, rows_place}
use Rattle.recipe.proofs.ReadBack.{length_bytes, length_edges, read_program, read_edges}
use Rattle.recipe.proofs.Standing.{passes, stands, is_written, methods_count, nodes_count, rows_count}
use Rattle.recipe.proofs.WriteBack.{methods_written, nodes_written, rows_written}

module _ (r : Recipe) where
  -- the program with the edges of a list that count is lawful
  pub stands_with : (es : List Edge) → Lawful (program r) (listed_edges (program r) es)
  stands_with es = lawful_with (program r) (own_edges r) (take 4096 es) (stands r) (let h = length-take 4096 es in omega arith)

  -- the length of the file, from where the edges lie
  pub file_length : (es : List Edge) (k : ℕ) → k ≡ length (listed_edges (program r) es)
      → r.layout.contents.edges.place + 4 * k + 32 * r.layout.contents.rows.count ≡ length (file_with (program r) es)
  file_length es k e =
      let l = length_bytes (program r) (listed_edges (program r) es) (stands_with es) in
      let m = methods_count r in
      let n = nodes_count r in
      let w = rows_count r in
      omega arith

  abbrev bs : List ℕ
  bs = file_of r

  abbrev ms : List ℕ
  ms = flat_map method_bytes (program r).methods

  abbrev ns : List ℕ
  ns = flat_map node_bytes (program r).nodes

  abbrev rs : List ℕ
  rs = flat_map row_bytes (program r).rows

  -- what lies between the table of contents and the edges: the methods and the nodes
  middle_is : drop 16 bs ≡ (ms ++ ns) ++ drop (edges_at bs) bs
  unfolding program_of
  middle_is =
      let s = r.layout.bytes in
      let t = laid r.layout in
      methods_written bs s t (passes r) ∙ ap (λ l. ms ++ l) (nodes_written bs s t (passes r)) ∙ sym (append_assoc ms ns (drop (edges_at bs) bs))

  pub middle_length : length (ms ++ ns) ≡ edges_at bs - 16
  middle_length =
      let e = ap length middle_is in
      let a = length-append (ms ++ ns) (drop (edges_at bs) bs) in
      let b = length-drop 16 bs in
      let c = length-drop (edges_at bs) bs in
      let w = (laid r.layout).whole in
      omega arith

  pub middle : take (r.layout.contents.edges.place - 16) (drop 16 bs) ≡ ms ++ ns
  middle =
      let e : length (ms ++ ns) ≡ r.layout.contents.edges.place - 16 = let p = edges_place r.layout in let l = middle_length in omega arith in
      ap (take (r.layout.contents.edges.place - 16)) middle_is ∙ take_at (ms ++ ns) (drop (edges_at bs) bs) (r.layout.contents.edges.place - 16) e

  -- what lies past the edges: the rows
  pub tail : take (length bs - r.layout.contents.rows.place) (drop r.layout.contents.rows.place bs) ≡ rs
  unfolding program_of
  tail =
      let at = r.layout.contents.rows.place in
      let t = laid r.layout in
      let d = length-drop at bs in
      take_all (length bs - at) (drop at bs) (omega arith)
      ∙ ap (λ k. drop k bs) (rows_place r.layout) ∙ rows_written bs r.layout.bytes t (passes r) ∙ ap (λ l. rs ++ l) (drop_all (end_at bs) bs (omega arith)) ∙ append-nil rs

  pub pieces : (es : List Edge) (k : ℕ) (h b j t : List ℕ) → k ≡ length (listed_edges (program r) es)
      → h ≡ contents_bytes (length (program r).methods) (length (program r).nodes) k (length (program r).rows)
      → b ≡ ms ++ ns → j ≡ flat_map edge_bytes (listed_edges (program r) es) → t ≡ rs → ((h ++ b) ++ j) ++ t ≡ file_with (program r) es
  unfolding bytes_of
  pieces es k h b j t ke he be je te =
      let p = program r in
      let js = flat_map edge_bytes (listed_edges p es) in
      append_assoc (h ++ b) j t ∙ append_assoc h b (j ++ t)
      ∙ (λ i. he i ++ (be i ++ (je i ++ te i)))
      ∙ (λ i. contents_bytes (length p.methods) (length p.nodes) (ke i) (length p.rows) ++ append_assoc ms ns (js ++ rs) i)

  -- the pieces one after another make the file, and past it the output is as it was
  pub assembled : (es : List Edge) (k : ℕ) (xs h b j t out1 out2 out3 out4 : List ℕ) → k ≡ length (listed_edges (program r) es) → length (file_with (program r) es) ≤ length xs
      → h ≡ contents_bytes (length (program r).methods) (length (program r).nodes) k (length (program r).rows)
      → b ≡ ms ++ ns → j ≡ flat_map edge_bytes (listed_edges (program r) es) → t ≡ rs
      → out1 ≡ take 0 xs ++ (h ++ drop (0 + length h) xs)
      → out2 ≡ take 16 out1 ++ (b ++ drop (16 + length b) out1)
      → out3 ≡ take r.layout.contents.edges.place out2 ++ (j ++ drop (r.layout.contents.edges.place + 4 * k) out2)
      → out4 ≡ take (r.layout.contents.edges.place + 4 * k) out3 ++ (t ++ drop (r.layout.contents.edges.place + 4 * k + length t) out3)
      → out4 ≡ file_with (program r) es ++ drop (length (file_with (program r) es)) xs
  assembled es k xs h b j t out1 out2 out3 out4 ke room he be je te e1 e2 e3 e4 =
      let at = r.layout.contents.edges.place in
      let p = program r in
      let fl = file_length es k ke in
      let hl : length h ≡ 16 = ap length he in
      let bl : length b ≡ at - 16 = ap length be ∙ (let q = edges_place r.layout in let l = middle_length in omega arith) in
      let jl : length j ≡ 4 * k = ap length je ∙ length_edges p (listed_edges p es) ∙ ap (λ n. 4 * n) (sym ke) in
      let tl = ap length te in
      let low : 16 ≤ at = omega arith in
      let n1 = length-append h b in
      let n2 = length-append (h ++ b) j in
      let f1 = put_after xs [] h xs out1 0 refl refl (omega arith) (omega arith) e1 in
      let f2 = put_after xs h b out1 out2 16 f1 hl (omega arith) (omega arith) e2 in
      let e3' = e3 ∙ ap (λ n. take at out2 ++ (j ++ drop (at + n) out2)) (sym jl) in
      let f3 = put_after xs (h ++ b) j out2 out3 at f2 (omega arith) (omega arith) (omega arith) e3' in
      let whole = pieces es k h b j t ke he be je te in
      let rsl : at + 4 * k + length t ≤ length xs = let w = ap length whole in let n3 = length-append ((h ++ b) ++ j) t in omega arith in
      let f4 = put_after xs ((h ++ b) ++ j) t out3 out4 (at + 4 * k) f3 (omega arith) (omega arith) rsl e4 in
      f4 ∙ (λ i. whole i ++ drop (length (whole i)) xs)

  -- the file is legal, and reads back as the same program with the edges that counted
  pub written_legal : (es : List Edge) → Legal (file_with (program r) es)
  written_legal es = (program r, listed_edges (program r) es, stands_with es, refl)

  pub written_program : (es : List Edge) → program_of (file_with (program r) es) ≡ program r
  written_program es = read_program (program r) (listed_edges (program r) es) (stands_with es)

  pub written_edges : (es : List Edge) → edges_of (file_with (program r) es) ≡ listed_edges (program r) es
  written_edges es = read_edges (program r) (listed_edges (program r) es) (stands_with es)

  -- with the recipe's own edges it is the recipe's own file
  pub written_same : (es : List Edge) → es ≡ own_edges r → file_with (program r) es ≡ file_of r
  written_same es e =
      let law = stands r in
      let few : take 4096 (own_edges r) ≡ own_edges r = take_all 4096 (own_edges r) law.few_edges in
      ap (file_with (program r)) e ∙ ap (λ l. bytes_of (program r) (counted (program r) l)) few ∙ ap (bytes_of (program r)) (lawful_counted (program r) (own_edges r) law) ∙ sym (is_written r)

  -- edges all of which count are written as they are
  pub all_listed : (es : List Edge) → AllCount (program r) es → listed_edges (program r) es ≡ es
  all_listed es all = ap (counted (program r)) (take_all 4096 es all.0) ∙ all.1

  -- the beginning of an output that has the file of such edges
  pub file_of_all : (es : List Edge) (out rest : List ℕ) → AllCount (program r) es → out ≡ file_with (program r) es ++ rest → FileOf (program r) es (take (length (file_with (program r) es)) out)
  file_of_all es out rest all e =
      let file = file_with (program r) es in
      let front : take (length file) out ≡ file = ap (take (length file)) e ∙ take_at file rest (length file) refl in
      record {
        legal = subst Legal (sym front) (written_legal es);
        bytes = front ∙ ap (bytes_of (program r)) (all_listed es all);
        program = ap program_of front ∙ written_program es;
        edges = ap edges_of front ∙ written_edges es ∙ all_listed es all;
      }
