use Rattle.std.proofs.Common.{sym, refl, ◌∙◌, arith, rules, below_more}
use Rattle.model.specs.Program.{offset}
use Rattle.recipe.proofs.Firsts.{each_first, each_done}
use Rattle.recipe.proofs.Scans.{sum_more, method_within, entry_test_lem}
use Rattle.recipe.proofs.spans.Divided.check_entries.Goals as goal

pub loop-k-init : goal.loop-k-init
unfolding offset
loop-k-init c = (refl, λ j h. absurd (omega arith))

pub has_entry-requires : goal.has_entry-requires
has_entry-requires c =
    let w = method_within c.args.self c.loop-k.k c.loop-k.first c.method-own.result (omega arith) c.loop-k.invariant.0 c.method-own.ensures in
    omega arith

pub returns-then-not-has_entry : goal.returns-then-not-has_entry
returns-then-not-has_entry c =
    let e = entry_test_lem c.args.self.layout.now.file.now c.loop-k.k c.loop-k.first c.method-own.result c.loop-k.invariant.0 c.method-own.ensures in
    each_first _ _ _ _ (omega arith) c.loop-k.invariant.1 (e ∙ sym c.if-not-has_entry.ensures)

pub overflow_add-first : goal.overflow_add-first
overflow_add-first c =
    let w = method_within c.args.self c.loop-k.k c.loop-k.first c.method-own.result (omega arith) c.loop-k.invariant.0 c.method-own.ensures in
    search rules

pub loop-k-preserved : goal.loop-k-preserved
loop-k-preserved c =
    let bs = c.args.self.layout.now.file.now in
    let e = entry_test_lem bs c.loop-k.k c.loop-k.first c.method-own.result c.loop-k.invariant.0 c.method-own.ensures in
    let h = sum_more bs c.loop-k.k (omega arith) in
    let i = c.loop-k.invariant.0 in
    (cc, below_more _ _ c.loop-k.invariant.1 (e ∙ sym c.if-not-has_entry.ensures))

pub returns : goal.returns
returns c = each_done _ _ _ c.loop-k.k (omega arith) c.loop-k.invariant.1
