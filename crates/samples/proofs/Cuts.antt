-- Of lawful parts nothing is cut: what is built of them is the file of their program and edges.
use Rattle.std.proofs.Common.{◌≡◌, ℕ, suc, ◌+◌, ◌*◌, ◌%◌, ◌<◌, ◌≤◌, List, [], ◌∷◌, ◌++◌, length, get_or, refl, ap, ◌∙◌, arith}
use Rattle.std.specs.List.{flat_map}
use Rattle.std.proofs.lemmas.Nat.{and_le_r}
use Rattle.model.specs.declared.Edge.{Edge}
use Rattle.model.specs.declared.Kind.{Kind}
use Rattle.model.specs.declared.Kind.TheVariants.{Nop, Call, Check, Return}
use Rattle.model.specs.Lawful.{Lawful, KindRules}
use Rattle.model.specs.Program.{Program, no_method, no_node, no_edge, method_at, node_at, home, rights_of}
use Rattle.model.proofs.Sums.{offset_step, offset_mono, home_within}
use Rattle.recipe.specs.Format.{word, method_bytes, node_bytes, edge_bytes, row_bytes, contents_bytes, bytes_of}
use Rattle.samples.specs.declared.building.Parts.{Parts}
use Rattle.samples.specs.Building.{program_in, cut, cut_method, cut_kind, cut_node, cut_edge, words, told, contents_of, built}

-- a number that fits is not cut
uncut : (n : ℕ) → n < 65536 → cut n ≡ n
uncut n h = omega arith

uncut_byte : (n : ℕ) → n < 256 → n % 256 ≡ n
uncut_byte n h = omega arith

-- lists of records that agree record by record
same_records : {X : Type 0} (f g : X → List ℕ) (d : X) (xs : List X) → ((k : ℕ) → k < length xs → f (get_or xs k d) ≡ g (get_or xs k d)) → flat_map f xs ≡ flat_map g xs
same_records f g d [] h = refl
same_records f g d (x ∷ xs) h = λ i. h 0 (omega arith) i ++ same_records f g d xs (λ k l. h (suc k) (omega arith)) i

uncut_contents : (m n e r : ℕ) → m ≤ 256 → n ≤ 1024 → e ≤ 4096 → r ≤ 16 → words (contents_of (told m) (told n) (told e) (told r)) ≡ contents_bytes m n e r
uncut_contents m n e r hm hn he hr =
    let tm : told m ≡ m = omega arith in
    let tn : told n ≡ n = omega arith in
    let te : told e ≡ e = omega arith in
    let tr : told r ≡ r = omega arith in
    let f : (k : ℕ) → k < 65536 → word (cut k) ≡ word k = λ k l. ap word (uncut k l) in
    (λ i. words (contents_of (tm i) (tn i) (te i) (tr i)))
    ∙ (λ i. word 16 ++ (f m (omega arith) i ++ (f (16 + 4 * m) (omega arith) i ++ (f n (omega arith) i
    ++ (f (16 + 4 * m + 8 * n) (omega arith) i ++ (f e (omega arith) i ++ (f (16 + 4 * m + 8 * n + 4 * e) (omega arith) i ++ f r (omega arith) i)))))))

uncut_kind : (methods rights : ℕ) (k : Kind) → methods ≤ 256 → rights < 65536 → KindRules methods rights k → cut_kind k ≡ k
uncut_kind methods rights Nop few small h = refl
uncut_kind methods rights (Call callee grant accept privileged) few small h =
    let c : callee % 256 ≡ callee = uncut_byte callee (omega (arith, h.0)) in
    let g : cut grant ≡ grant = uncut grant (omega (arith, and_le_r grant rights, h.1)) in
    let a : cut accept ≡ accept = uncut accept (omega (arith, and_le_r accept rights, h.2)) in
    λ i. Call (c i) (g i) (a i) privileged
uncut_kind methods rights (Check required) few small h = ap Check (uncut required h)
uncut_kind methods rights Return few small h = refl

module _ (p : Program) (es : List Edge) (law : Lawful p es) where
  uncut_method : (k : ℕ) → k < length p.methods → cut_method (method_at p k) ≡ method_at p k
  uncut_method k l =
      let r = uncut (method_at p k).rights (law.method k l).rights in
      let n = uncut (method_at p k).nodes (omega (arith, offset_step p.methods k, offset_mono p.methods (suc k) (length p.methods) l, law.summing, law.few_nodes)) in
      λ i. record { rights = r i; nodes = n i }

  uncut_node : (n : ℕ) → n < length p.nodes → cut_node (node_at p n) ≡ node_at p n
  uncut_node n l =
      let rules = law.node n l in
      let at = home_within p.methods n (omega (arith, law.summing)) in
      let k = uncut_kind (length p.methods) (rights_of p n) (node_at p n).kind law.few_methods (law.method (home p.methods n) at.0).rights rules.1 in
      let m = uncut_byte (node_at p n).mark (omega (arith, rules.0)) in
      λ i. record { kind = k i; mark = m i; entry = (node_at p n).entry }

  uncut_edge : (k : ℕ) → k < length es → cut_edge (get_or es k no_edge) ≡ get_or es k no_edge
  uncut_edge k l =
      let rules = law.edge k l in
      let f = uncut (get_or es k no_edge).from (omega (arith, rules.leaves, law.few_nodes)) in
      let t = uncut (get_or es k no_edge).to (omega (arith, rules.arrives, law.few_nodes)) in
      λ i. record { from = f i; to = t i }

pub lawful_built : (p : Parts) → Lawful (program_in p) p.edges.now → built p ≡ bytes_of (program_in p) p.edges.now
unfolding built bytes_of
lawful_built p law =
    let q = program_in p in
    let es = p.edges.now in
    let c = uncut_contents (length q.methods) (length q.nodes) (length es) (length q.rows) law.few_methods law.few_nodes law.few_edges law.few_rows in
    let m = same_records (λ m. method_bytes (cut_method m)) method_bytes no_method q.methods (λ k l. ap method_bytes (uncut_method q es law k l)) in
    let n = same_records (λ n. node_bytes (cut_node n)) node_bytes no_node q.nodes (λ k l. ap node_bytes (uncut_node q es law k l)) in
    let e = same_records (λ e. edge_bytes (cut_edge e)) edge_bytes no_edge es (λ k l. ap edge_bytes (uncut_edge q es law k l)) in
    λ i. c i ++ (m i ++ (n i ++ (e i ++ flat_map row_bytes q.rows)))
