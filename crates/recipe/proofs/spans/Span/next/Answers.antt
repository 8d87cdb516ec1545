use Rattle.std.proofs.Common.{◌+◌, ◌<◌, ap, arith}
use Rattle.recipe.specs.Bytes.{count_in}
use Rattle.recipe.proofs.Scans.{sum_more}
use Rattle.recipe.proofs.spans.Span.next.Goals as goal

pub invariant_of-result : goal.invariant_of-result
invariant_of-result c =
    let bs = c.args.self.of.layout.now.file.now in
    let k = c.args.self.method + 1 in
    let more : k < count_in bs 0 = grind arith in
    let own = ap (λ m. m.nodes) c.method-own.ensures in
    let h = sum_more bs k more in
    record { spans = (more, c.args.self.spans.2, cc) }
