use Rattle.std.proofs.Common.{◌<◌, sym, refl, ap, ◌∙◌, zero-add, arith}
use Rattle.model.specs.Program.{offset}
use Rattle.recipe.specs.Bytes.{count_in}
use Rattle.recipe.proofs.Scans.{sum_more}
use Rattle.recipe.proofs.spans.Divided.first_span.Goals as goal

pub invariant_of-result : goal.invariant_of-result
unfolding offset
invariant_of-result c =
    let bs = c.args.self.layout.now.file.now in
    let some : 0 < count_in bs 0 = omega arith in
    record { spans = (some, refl, ap (λ m. m.nodes) c.method.ensures ∙ sym (sum_more bs 0 some ∙ zero-add _)) }
