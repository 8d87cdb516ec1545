use Rattle.std.proofs.Common.{ap, ◌∙◌, arith}
use Rattle.std.proofs.lemmas.Bool.Decides.{nat_tests}
use Rattle.model.specs.declared.Method.{Method}
use Rattle.recipe.proofs.Scans.{method_at_lem}
use Rattle.explaining.specs.Rules.{explained}
use Rattle.explaining.proofs.explaining.explain_method.Goals as goal

pub returns : goal.returns
unfolding explained
returns c =
    let own = c.method-own.ensures.value ∙ method_at_lem c.args.file.now c.args.number (omega arith) in
    let rights = ap (λ (m : Method). m.rights) own in
    let nodes = ap (λ (m : Method). m.nodes) own in
    grind (arith, nat_tests)
