use Rattle.std.proofs.Common.{◌≡◌, ℕ, ◌+◌, true, false, refl, sym, ◌∙◌, arith, rules}
use Rattle.std.proofs.lemmas.Iterator.{YieldsList-from_range, cases_from_any}
use borrow.Author.Tests.{tests}
use Rattle.model.specs.Program.{node_at}
use Rattle.recipe.specs.Bytes.{program_of}
use Rattle.recipe.proofs.Layers.{any_over}
use Rattle.recipe.proofs.Scans.{method_at_lem, entry_test_lem}
use Rattle.explaining.proofs.broken.has_entry.Goals as goal

pub returns : goal.returns
returns c =
    let bs = c.args.file.now in
    let first = c.nodes_before-first.result in
    let many = c.method-own.result.nodes in
    let f = λ (n : ℕ). (node_at (program_of bs) n).entry in
    let own = c.method-own.ensures.value ∙ method_at_lem bs c.args.k (omega arith) in
    any_over first many f c.any.result (cases_from_any _ _ _ (λ n. f n ≡ true) (λ n. f n ≡ false) c.any.ensures.ran (YieldsList-from_range first (first + many) many refl (omega arith)) (λ x q k. search (rules, tests)) (λ x q k. search (rules, tests)))
    ∙ sym (entry_test_lem bs c.args.k first c.method-own.result c.nodes_before-first.ensures.value own)
