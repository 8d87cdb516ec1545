use Rattle.std.proofs.Common.{Some, sym, ap, ◌∙◌, add-one, arith}
use Rattle.std.proofs.lemmas.Bool.Decides.{nat_tests}
use Rattle.model.specs.declared.Method.{Method}
use Rattle.model.specs.Program.{offset}
use Rattle.recipe.specs.Bytes.{program_of}
use Rattle.recipe.proofs.Firsts.{offence_here, offence_past}
use Rattle.recipe.proofs.Scans.{method_at_lem}
use Rattle.explaining.specs.declared.explanation.Rule.TheVariants.{SumPast, SumShort}
use Rattle.explaining.specs.Rules.{method_rules}
use Rattle.explaining.proofs.Kept.{kept_4}
use Rattle.explaining.proofs.broken.method_broken.Goals as goal

pub returns-then-method-lt1 : goal.returns-then-method-lt1
unfolding method_rules
returns-then-method-lt1 c =
    let own = ap (λ (m : Method). m.nodes) (c.method.ensures.value ∙ method_at_lem c.args.file.now c.args.k (omega arith)) in
    sym (offence_here _ _ _ (grind (arith, nat_tests)))

pub returns-then-sum-nodes : goal.returns-then-sum-nodes
unfolding method_rules
returns-then-sum-nodes c =
    let own = ap (λ (m : Method). m.nodes) (c.method.ensures.value ∙ method_at_lem c.args.file.now c.args.k (omega arith)) in
    let sum = c.nodes_before-sum.ensures.value ∙ ap (offset (program_of c.args.file.now).methods) (add-one c.args.k) in
    (λ i. Some (SumPast (sum i) (c.count-nodes.ensures.value i)))
    ∙ sym (offence_past _ _ _ (grind (arith, nat_tests)) ∙ offence_here _ _ _ (grind (arith, nat_tests)))

pub returns-then-sum-nodes-2 : goal.returns-then-sum-nodes-2
unfolding method_rules
returns-then-sum-nodes-2 c =
    let own = ap (λ (m : Method). m.nodes) (c.method.ensures.value ∙ method_at_lem c.args.file.now c.args.k (omega arith)) in
    let sum = c.nodes_before-sum.ensures.value ∙ ap (offset (program_of c.args.file.now).methods) (add-one c.args.k) in
    (λ i. Some (SumShort (sum i) (c.count-nodes.ensures.value i)))
    ∙ sym (offence_past _ _ _ (grind (arith, nat_tests)) ∙ offence_past _ _ _ (grind (arith, nat_tests)) ∙ offence_here _ _ _ (grind (arith, nat_tests)))

pub returns-then-not-has_entry : goal.returns-then-not-has_entry
unfolding method_rules
returns-then-not-has_entry c =
    let own = ap (λ (m : Method). m.nodes) (c.method.ensures.value ∙ method_at_lem c.args.file.now c.args.k (omega arith)) in
    let sum = c.nodes_before-sum.ensures.value ∙ ap (offset (program_of c.args.file.now).methods) (add-one c.args.k) in
    let either = c.else-k-count.either in
    sym (offence_past _ _ _ (grind (arith, nat_tests)) ∙ offence_past _ _ _ (grind (arith, nat_tests)) ∙ offence_past _ _ _ (grind (arith, nat_tests)) ∙ offence_here _ _ _ (sym c.has_entry.ensures ∙ c.if-not-has_entry.true))

pub returns : goal.returns
unfolding method_rules
returns c =
    let own = ap (λ (m : Method). m.nodes) (c.method.ensures.value ∙ method_at_lem c.args.file.now c.args.k (omega arith)) in
    let sum = c.nodes_before-sum.ensures.value ∙ ap (offset (program_of c.args.file.now).methods) (add-one c.args.k) in
    let either = c.else-k-count.either in
    sym (kept_4 _ _ _ _ _ _ _ _ (grind (arith, nat_tests)) (grind (arith, nat_tests)) (grind (arith, nat_tests)) (sym c.has_entry.ensures ∙ c.if-not-has_entry.false))
