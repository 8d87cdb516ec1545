use Rattle.std.proofs.Common.{sym, ap, ◌∙◌, arith}
use Rattle.model.specs.Program.{home}
use Rattle.recipe.specs.Bytes.{program_of}
use Rattle.recipe.specs.declared.Layout.{Layout}
use Rattle.recipe.proofs.Scans.{home_in}
use Rattle.recipe.proofs.Standing.{nodes_count, sums}
use Rattle.recipe.proofs.Recipe.span_of.Goals as goal

pub invariant_of-divided : goal.invariant_of-divided
invariant_of-divided c = record { sums = sums c.args.self.now }

pub seek-requires-clause-within : goal.seek-requires-clause-within
seek-requires-clause-within c =
    let many = nodes_count c.args.self.now in
    let same = ap (λ d. d.layout.now.contents.nodes.count) c.first_span.ensures.of in
    omega arith

pub returns-clause-home : goal.returns-clause-home
returns-clause-home c =
    let at = c.seek.ensures in
    let h = home_in c.seek.result c.args.n at.low at.high in
    let same = ap (λ d. d.layout.now) (at.of ∙ c.first_span.ensures.of) in
    sym (ap (λ (l : Layout). home (program_of l.file.now).methods c.args.n) (sym same) ∙ h)
