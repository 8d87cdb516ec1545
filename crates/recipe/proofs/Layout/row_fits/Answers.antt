use Rattle.std.proofs.Common.{◌≡◌, true, false, refl, rules}
use Rattle.std.proofs.lemmas.Iterator.{YieldsList-from_range, cases_from_all}
use borrow.Author.Tests.{tests}
use Rattle.recipe.specs.Offence.{row_test, cell_test}
use Rattle.recipe.proofs.Layers.{all_over}
use Rattle.recipe.proofs.Layout.row_fits.Goals as goal

pub returns : goal.returns
unfolding row_test
returns c =
    let f = cell_test c.args.self.now.file.now c.args.row in
    all_over 32 f c.all.result (cases_from_all _ _ _ (λ n. f n ≡ true) (λ n. f n ≡ false) c.all.ensures.ran (YieldsList-from_range 0 32 32 refl refl) (λ x q k. search (rules, tests)) (λ x q k. search (rules, tests)))
