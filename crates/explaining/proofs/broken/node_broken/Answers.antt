use Rattle.std.proofs.Common.{sym, ap, ◌∙◌}
use Rattle.model.specs.declared.Method.{Method}
use Rattle.model.specs.Program.{method_at}
use Rattle.recipe.specs.Bytes.{program_of}
use Rattle.recipe.specs.Offence.{first_offence}
use Rattle.recipe.proofs.Firsts.{second_of_two}
use Rattle.explaining.specs.declared.explanation.Fields.{Fields}
use Rattle.explaining.specs.Rules.{form_rules, call_rules, node_rules}
use Rattle.explaining.proofs.Kept.{first_stays}
use Rattle.explaining.proofs.broken.node_broken.Goals as goal

pub returns-in_default : goal.returns-in_default
unfolding node_rules
returns-in_default c =
    let f = ap (λ (f : Fields). first_offence (form_rules f)) c.fields-f.ensures in
    first_stays _ _ _ (c.form_broken.ensures ∙ f) c.in_default.not-None

pub returns-in-None : goal.returns-in-None
unfolding node_rules
returns-in-None c =
    let f = ap (λ (f : Fields). first_offence (form_rules f)) c.fields-f.ensures in
    let rights = ap (λ (m : Method). m.rights) (c.method-rights.ensures.value ∙ ap (method_at (program_of c.args.file.now)) c.home.ensures) in
    c.call_broken.ensures ∙ (λ i. first_offence (call_rules (c.count.ensures.value i) (rights i) (c.fields-f.ensures i)))
    ∙ sym (second_of_two _ _ (sym f ∙ sym c.form_broken.ensures ∙ c.in-None.is))
