use Rattle.std.proofs.Common.{◌≡◌, ◌+◌, ◌*◌, ◌≤◌, true, false, leb, ◌++◌, length, take, drop, Ok, Err, subst, sym, refl, ap, ◌∙◌, arith}
use Rattle.std.proofs.lemmas.Bool.{cond-true, cond-false, le-leb, lt-leb}
use Rattle.std.specs.List.{flat_map}
use Rattle.recipe.specs.declared.grounds.Refusal.TheVariants.{ShortOutput}
use Rattle.recipe.specs.Format.{edge_bytes, contents_bytes}
use Rattle.recipe.specs.Recipes.{program}
use Rattle.recipe.specs.Writing.{listed_edges, file_with, FileOf}
use Rattle.recipe.proofs.Standing.{methods_count, nodes_count, rows_count}
use Rattle.recipe.proofs.Writes.{file_length, middle, tail, assembled, written_legal, written_program, written_edges, written_same, file_of_all}
use Rattle.recipe.proofs.writing.write.Goals as goal

pub returns-then-out-needed : goal.returns-then-out-needed
returns-then-out-needed c =
    let r = c.args.recipe.now in
    let es = c.args.edges.now in
    let k : c.count-many.result ≡ length (listed_edges (program r) es) = c.count-many.ensures.value in
    let n = file_length r es c.count-many.result k in
    let short : leb (length (file_with (program r) es)) (length c.args.out.now) ≡ false = lt-leb _ _ (omega arith) in
    record {
      answer = ap (λ m. Err (ShortOutput m)) n ∙ sym (cond-false _ (Ok (length (file_with (program r) es))) (Err (ShortOutput (length (file_with (program r) es)))) short);
      output = sym (cond-false _ (file_with (program r) es ++ drop (length (file_with (program r) es)) c.args.out.now) c.args.out.now short);
      legal = written_legal r es;
      program = written_program r es;
      edges = written_edges r es;
      same = written_same r es;
      means = λ all. tt;
    }

pub contents_bytes-requires : goal.contents_bytes-requires
contents_bytes-requires c =
    let r = c.args.recipe.now in
    let m = methods_count r in
    let n = nodes_count r in
    let w = rows_count r in
    let b = c.count-many.ensures.bound in
    omega arith

pub returns : goal.returns
returns c =
    let r = c.args.recipe.now in
    let es = c.args.edges.now in
    let k : c.count-many.result ≡ length (listed_edges (program r) es) = c.count-many.ensures.value in
    let n = file_length r es c.count-many.result k in
    let room : length (file_with (program r) es) ≤ length c.args.out.now = omega arith in
    let long : leb (length (file_with (program r) es)) (length c.args.out.now) ≡ true = le-leb _ _ room in
    let at = r.layout.contents.edges.place in
    let front = take at c.put-2.new.out in
    let edges = c.put_edges.ensures ∙ ap (λ m. front ++ (flat_map edge_bytes (listed_edges (program r) es) ++ drop (at + 4 * m) c.put-2.new.out)) (sym k) in
    let all_there = assembled r es c.count-many.result c.args.out.now c.contents_bytes.result _ (flat_map edge_bytes (listed_edges (program r) es)) _ c.put.new.out c.put-2.new.out c.put_edges.new.out c.put-3.new.out k room
    (c.contents_bytes.ensures ∙ (λ i. contents_bytes (c.methods.ensures i) (c.nodes.ensures i) c.count-many.result (c.rows.ensures i)))
    (middle r) refl (tail r)
    c.put.ensures c.put-2.ensures edges c.put-3.ensures in
    record {
      answer = ap Ok n ∙ sym (cond-true _ (Ok (length (file_with (program r) es))) (Err (ShortOutput (length (file_with (program r) es)))) long);
      output = all_there ∙ sym (cond-true _ (file_with (program r) es ++ drop (length (file_with (program r) es)) c.args.out.now) c.args.out.now long);
      legal = written_legal r es;
      program = written_program r es;
      edges = written_edges r es;
      same = written_same r es;
      means = λ all. subst (λ m. FileOf (program r) es (take m c.put-3.new.out)) (sym n) (file_of_all r es c.put-3.new.out (drop (length (file_with (program r) es)) c.args.out.now) all all_there);
    }
