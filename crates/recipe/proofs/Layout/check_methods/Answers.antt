use Rattle.std.proofs.Common.{refl, ◌∙◌, arith, below_more}
use Rattle.std.proofs.lemmas.Bool.Decides.{nat_tests}
use Rattle.model.specs.Program.{offset}
use Rattle.recipe.proofs.Firsts.{each_first, each_done}
use Rattle.recipe.proofs.Scans.{sum_more, method_test_lem, summed}
use Rattle.recipe.proofs.Layout.check_methods.Goals as goal

pub loop-k-init : goal.loop-k-init
unfolding offset
loop-k-init c = (refl, omega arith, λ j h. absurd (omega arith))

pub returns-then-own-lt1-clause-answer : goal.returns-then-own-lt1-clause-answer
returns-then-own-lt1-clause-answer c =
    let e = method_test_lem c.args.self.now.file.now c.loop-k.k c.loop-k.sum c.method-own.result (omega arith) c.loop-k.invariant.0 c.method-own.ensures in
    each_first _ _ _ _ (omega arith) c.loop-k.invariant.2 (e ∙ grind (arith, nat_tests))

pub loop-k-preserved : goal.loop-k-preserved
loop-k-preserved c =
    let bs = c.args.self.now.file.now in
    let e = method_test_lem bs c.loop-k.k c.loop-k.sum c.method-own.result (omega arith) c.loop-k.invariant.0 c.method-own.ensures in
    let h = sum_more bs c.loop-k.k (omega arith) in
    let i = c.loop-k.invariant.0 in
    (cc, omega arith, below_more _ _ c.loop-k.invariant.2 (e ∙ grind (arith, nat_tests)))

pub invariant_of-result : goal.invariant_of-result
invariant_of-result c = record { sums = summed c.args.self.now.file.now (omega arith) (λ j h. c.loop-k.invariant.2 j (omega arith)) }

pub returns-clause-answer : goal.returns-clause-answer
returns-clause-answer c = each_done _ _ _ c.loop-k.k (omega arith) c.loop-k.invariant.2
