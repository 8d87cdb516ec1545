use Rattle.std.proofs.Common.{length, sym, ap, ◌∙◌, arith}
use Rattle.std.proofs.lemmas.Bool.Decides.{nat_tests}
use Rattle.recipe.proofs.Firsts.{offence_here}
use Rattle.recipe.proofs.Tables.{counts_right, places_right, in_counts, in_places}
use Rattle.recipe.proofs.Stages.{exit}
use Rattle.recipe.proofs.Layout.read.Goals as goal

pub returns-then-file-lt16-clause-answer : goal.returns-then-file-lt16-clause-answer
returns-then-file-lt16-clause-answer c = sym (offence_here _ _ _ (grind (arith, nat_tests)))

pub invariant_of-result : goal.invariant_of-result
invariant_of-result c =
    let n = counts_right c.read-contents.result (sym c.in_ok-check_counts.ensures) in
    let a = places_right c.read-contents.result (length c.args.file.now) (sym c.in_ok-check_places.ensures) in
    let here = c.read-contents.ensures in
    record {
      bytes = λ i. omega (arith, c.type_inv.file i);
      methods_told = (ap (λ k. k.methods.place) here, ap (λ k. k.methods.count) here);
      nodes_told = (ap (λ k. k.nodes.place) here, ap (λ k. k.nodes.count) here);
      edges_told = (ap (λ k. k.edges.place) here, ap (λ k. k.edges.count) here);
      rows_told = (ap (λ k. k.rows.place) here, ap (λ k. k.rows.count) here);
      methods_few = (n.some_methods, n.few_methods);
      nodes_few = (n.some_nodes, n.few_nodes);
      edges_few = n.few_edges;
      rows_few = n.few_rows;
      methods_laid = a.methods;
      nodes_laid = omega arith;
      edges_laid = a.edges;
      rows_laid = a.rows;
      whole = a.end;
    }

pub returns-in_err-check_counts-clause-answer : goal.returns-in_err-check_counts-clause-answer
returns-in_err-check_counts-clause-answer c = exit _ _ c.from_residual.ensures.1 ∙ in_counts _ _ c.read-contents.ensures (omega arith) _ c.in_err-check_counts.ensures

pub returns-in_err-check_places-clause-answer : goal.returns-in_err-check_places-clause-answer
returns-in_err-check_places-clause-answer c =
    exit _ _ c.from_residual-in_err-check_places.ensures.1 ∙ c.in_err-check_places.ensures ∙ in_places _ _ c.read-contents.ensures (omega arith) c.in_ok-check_counts.ensures

pub returns-clause-answer : goal.returns-clause-answer
returns-clause-answer c = c.in_ok-check_places.ensures ∙ in_places _ _ c.read-contents.ensures (omega arith) c.in_ok-check_counts.ensures
