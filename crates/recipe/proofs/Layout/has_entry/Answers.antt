use Rattle.std.proofs.Common.{◌≡◌, ℕ, ◌+◌, true, false, refl, arith, rules}
use Rattle.std.proofs.lemmas.Iterator.{YieldsList-from_range, cases_from_any}
use borrow.Author.Tests.{tests}
use Rattle.model.specs.Program.{node_at}
use Rattle.recipe.specs.Bytes.{program_of}
use Rattle.recipe.proofs.Layers.{any_over}
use Rattle.recipe.proofs.Layout.has_entry.Goals as goal

pub returns : goal.returns
returns c =
    let first = c.args.first in
    let many = c.args.many in
    let f = λ (n : ℕ). (node_at (program_of c.args.self.now.file.now) n).entry in
    any_over first many f c.any.result (cases_from_any _ _ _ (λ n. f n ≡ true) (λ n. f n ≡ false) c.any.ensures.ran (YieldsList-from_range first (first + many) many refl (omega arith)) (λ x q k. search (rules, tests)) (λ x q k. search (rules, tests)))
