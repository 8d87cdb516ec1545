use Rattle.std.proofs.Common.{◌%◌, eqb, sym, ap, ◌∙◌, arith}
use Rattle.model.specs.declared.Node.{Node}
use Rattle.recipe.specs.Offence.{first_offence}
use Rattle.explaining.specs.declared.explanation.Fields.{Fields}
use Rattle.explaining.specs.Rules.{form_rules}
use Rattle.explaining.proofs.Nodes.{past_nodes, broken_node, formed_entry}
use Rattle.explaining.proofs.broken.is_entry.Goals as goal

pub returns-then-n-count : goal.returns-then-n-count
returns-then-n-count c = sym (ap (λ (m : Node). m.entry) (past_nodes c.args.file.now c.args.n (omega arith)))

pub returns-in-None : goal.returns-in-None
returns-in-None c =
    let f = ap (λ (f : Fields). first_offence (form_rules f)) c.fields-f.ensures in
    ap (λ (f : Fields). eqb (f.flags % 2) 1) c.fields-f.ensures ∙ sym (formed_entry c.args.file.now c.args.n (omega arith) (sym f ∙ sym c.form_broken.ensures ∙ c.in-None.is))

pub returns-in-Some : goal.returns-in-Some
returns-in-Some c =
    let f = ap (λ (f : Fields). first_offence (form_rules f)) c.fields-f.ensures in
    sym (ap (λ (m : Node). m.entry) (broken_node c.args.file.now c.args.n (omega arith) _ (sym f ∙ sym c.form_broken.ensures ∙ c.in-Some.is)))
