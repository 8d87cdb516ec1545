use Rattle.std.proofs.Common.{◌-◌, eqb, length, set, sym, ap, ◌∙◌, subst, arith}
use Rattle.model.specs.declared.Fact.{Fact}
use Rattle.std.proofs.lemmas.Bool.{eq-eqb, ne_eqb}
use Rattle.std.proofs.lemmas.List.{length-take-le, length-set}
use Rattle.inquiry.specs.Inquiries.{state_of}
use Rattle.inquiry.specs.Shapes.{span_at, with_end}
use Rattle.inquiry.proofs.Looking.{rows_fit}
use Rattle.inquiry.proofs.Filling.{Filling, fill_start, fill_end, fill_more, fill_place, fill_begins, fill_room, fill_sources, with_length, long_some}
use Rattle.inquiry.proofs.Stretches.{rows_hang, spans}
use Rattle.inquiry.proofs.Inquiry.write_stretch.Goals as goal

pub overflow_sub-from : goal.overflow_sub-from
overflow_sub-from c =
    let t = c.args.self.now in
    let n = length-take-le t.held t.facts.now (rows_fit t) in
    let long = spans (state_of t).rows (rows_hang t) c.args.place (omega (arith, c.requires.held.1)) in
    omega (arith, c.span_at.ensures, c.requires.fits.0, c.requires.small)

pub put_end-requires : goal.put_end-requires
put_end-requires c =
    let t = c.args.self.now in
    let n = length-take-le t.held t.facts.now (rows_fit t) in
    (λ some. omega (arith, long_some (state_of t).rows (rows_hang t) c.args.place some (omega (arith, c.requires.held.1)), c.requires.fits.0), c.requires.fits.1)

pub loop-at-init : goal.loop-at-init
loop-at-init c =
    let t = c.args.self.now in
    let rows = (state_of t).rows in
    let n = length-take-le t.held t.facts.now (rows_fit t) in
    let from = c.args.end - c.span_at.result in
    let long = spans rows (rows_hang t) c.args.place (omega (arith, c.requires.held.1)) in
    subst (λ out. Filling rows (rows_hang t) c.args.out.now out c.args.place from c.args.end c.args.end) (sym c.put_end.ensures)
    (fill_start rows (rows_hang t) c.args.out.now c.args.place from c.args.end c.requires.held.0 (omega (arith, c.requires.held.1)) (omega (arith, c.span_at.ensures, c.requires.fits.0, c.requires.small)) c.requires.fits.1)

pub row-row-requires : goal.row-row-requires
row-row-requires c =
    let t = c.args.self.now in
    let n = length-take-le t.held t.facts.now (rows_fit t) in
    let rows = (state_of t).rows in
    let p = fill_place rows (rows_hang t) (fill_more rows (rows_hang t) c.loop-at-test.true c.loop-at.invariant) (omega (arith, c.loop-at-test.true)) in
    (p.0, omega (arith, p.1))

pub put_end-requires-then-row-ne3 : goal.put_end-requires-then-row-ne3
put_end-requires-then-row-ne3 c =
    let t = c.args.self.now in
    let rows = (state_of t).rows in
    let row = c.row-row.ensures in
    let r = fill_room rows (rows_hang t) (fill_more rows (rows_hang t) c.loop-at-test.true c.loop-at.invariant) (omega (arith, c.loop-at-test.true)) (omega (arith, c.requires.small)) (ap (λ (f : Fact). eqb f.rule 3) (sym row) ∙ ne_eqb _ _ c.if-row-ne3.true) in
    let size = length-set c.loop-at.out (c.loop-at.at - 1) c.row-row.result.node in
    let same = ap (λ (f : Fact). f.returned) row in
    let enough = r.enough in
    let inside = r.inside in
    (λ some. let a = r.some_returned (omega arith) in omega arith, omega arith)

pub overflow_sub-at : goal.overflow_sub-at
overflow_sub-at c =
    let t = c.args.self.now in
    let rows = (state_of t).rows in
    let row = c.row-row.ensures in
    let r = fill_room rows (rows_hang t) (fill_more rows (rows_hang t) c.loop-at-test.true c.loop-at.invariant) (omega (arith, c.loop-at-test.true)) (omega (arith, c.requires.small)) (ap (λ (f : Fact). eqb f.rule 3) (sym row) ∙ ne_eqb _ _ c.if-row-ne3.true) in
    let span = c.span_at-then-row-ne3.ensures ∙ ap (λ (f : Fact). span_at rows f.returned) row ∙ r.span in
    let enough = r.enough in
    omega arith

pub put_end-requires-then-row-ne3-2 : goal.put_end-requires-then-row-ne3-2
put_end-requires-then-row-ne3-2 c =
    let t = c.args.self.now in
    let rows = (state_of t).rows in
    let row = c.row-row.ensures in
    let r = fill_room rows (rows_hang t) (fill_more rows (rows_hang t) c.loop-at-test.true c.loop-at.invariant) (omega (arith, c.loop-at-test.true)) (omega (arith, c.requires.small)) (ap (λ (f : Fact). eqb f.rule 3) (sym row) ∙ ne_eqb _ _ c.if-row-ne3.true) in
    let span = c.span_at-then-row-ne3.ensures ∙ ap (λ (f : Fact). span_at rows f.returned) row ∙ r.span in
    let one = set c.loop-at.out (c.loop-at.at - 1) c.row-row.result.node in
    let size = ap length c.put_end-then-row-ne3.ensures ∙ with_length one (c.loop-at.at - 1) c.row-row.result.returned ∙ length-set c.loop-at.out (c.loop-at.at - 1) c.row-row.result.node in
    let same = ap (λ (f : Fact). f.source) row in
    let enough = r.enough in
    let inside = r.inside in
    (λ some. let a = r.some_source (omega arith) in omega arith, omega arith)

pub loop-at-preserved-then-row-ne3 : goal.loop-at-preserved-then-row-ne3
loop-at-preserved-then-row-ne3 c =
    let t = c.args.self.now in
    let rows = (state_of t).rows in
    let row = c.row-row.ensures in
    let n = c.loop-at.at - 1 in
    let from = c.args.end - c.span_at.result in
    let f = fill_more rows (rows_hang t) c.loop-at-test.true c.loop-at.invariant in
    let made = c.put_end-then-row-ne3-2.ensures ∙ (λ i. with_end (c.put_end-then-row-ne3.ensures i) (n - c.span_at-then-row-ne3.ensures i) c.row-row.result.source) ∙ ap (λ (f : Fact). with_end (with_end (set c.loop-at.out n f.node) n f.returned) (n - span_at rows f.returned) f.source) row in
    subst (λ out. Filling rows (rows_hang t) c.args.out.now out c.args.place from n c.args.end) (sym made)
    (fill_sources rows (rows_hang t) f (omega (arith, c.loop-at-test.true)) (omega (arith, c.requires.small)) (ap (λ (f : Fact). eqb f.rule 3) (sym row) ∙ ne_eqb _ _ c.if-row-ne3.true))

pub loop-at-preserved : goal.loop-at-preserved
loop-at-preserved c =
    let t = c.args.self.now in
    let rows = (state_of t).rows in
    let row = c.row-row.ensures in
    let n = c.loop-at.at - 1 in
    let from = c.args.end - c.span_at.result in
    let f = fill_more rows (rows_hang t) c.loop-at-test.true c.loop-at.invariant in
    subst (λ (r : Fact). Filling rows (rows_hang t) c.args.out.now (set c.loop-at.out n r.node) c.args.place from n c.args.end) (sym row)
    (fill_begins rows (rows_hang t) f (omega (arith, c.loop-at-test.true)) (ap (λ (f : Fact). eqb f.rule 3) (sym row) ∙ eq-eqb _ _ c.if-row-ne3.false))

pub returns : goal.returns
returns c = let t = c.args.self.now in fill_end (state_of t).rows (rows_hang t) c.loop-at-test.false c.loop-at.invariant
