use Rattle.std.proofs.Common.{◌≡◌, ℕ, List, ◌++◌, codes, slice_index, inl, inr, sym, ap, ◌∙◌, rules}
use Rattle.std.proofs.Output.{has_written_of_eq, writes_in_calls_nil}
use Rattle.model.specs.Access.{history, stack_inspection}
use Rattle.model.specs.declared.Node.{Node}
use Rattle.recipe.specs.Recipes.{program}
use Rattle.inspect.specs.declared.asked.AtCall.{AtCall}
use Rattle.inspect.specs.declared.asked.AtCheck.{AtCheck}
use Rattle.inspect.specs.Answers.{answer_of, answer_text}
use Rattle.inspect.specs.Phrases.{at_call_text, at_check_text}
use Rattle.inspect.proofs.answers.write_answer.Goals as goal

pub returns-in-Call : goal.returns-in-Call
unfolding answer_text
returns-in-Call g c = λ plain ok.
    let kind = ap (λ (n : Node). n.kind) (sym c.node_at.ensures) ∙ c.in-Call.is in
    let p = program c.args.recipe.now in
    let m : c.unwrap_or-entry.result ≡ slice_index c.args.entries.now c.in-Call.callee = search rules in
    let line = λ (m : ℕ). at_call_text c.args.n ((history p).enter 65535 c.args.n m) ((stack_inspection p).enter 65535 c.args.n m) ++ codes "\n" in
    has_written_of_eq _ _ _ _ _ (ap (λ (a : AtCall). at_call_text a.call a.history a.stack ++ codes "\n") c.ask-answer.ensures ∙ ap line m ∙ sym (ap (answer_of p c.args.entries.now c.args.n) kind)) (c.writeln.ensures.writes plain ok)

pub returns-in-Check : goal.returns-in-Check
unfolding answer_text
returns-in-Check g c = λ plain ok.
    let kind = ap (λ (n : Node). n.kind) (sym c.node_at.ensures) ∙ c.in-Check.is in
    has_written_of_eq _ _ _ _ _ (ap (λ (a : AtCheck). at_check_text a.check a.history a.stack ++ codes "\n") c.ask-answer-in-Check.ensures ∙ sym (ap (answer_of (program c.args.recipe.now) c.args.entries.now c.args.n) kind)) (c.writeln-in-Check.ensures.writes plain ok)

pub returns-in-Nop : goal.returns-in-Nop
unfolding answer_text
returns-in-Nop g c = λ plain ok.
    let kind = ap (λ (n : Node). n.kind) (sym c.node_at.ensures) in
    has_written_of_eq _ _ _ _ _ (elim c.in-Nop.is [
      | inl h ↦ sym (ap (answer_of (program c.args.recipe.now) c.args.entries.now c.args.n) (kind ∙ h))
      | inr h ↦ sym (ap (answer_of (program c.args.recipe.now) c.args.entries.now c.args.n) (kind ∙ h))
    ]) (record { wrote = writes_in_calls_nil _ _; plain = plain })
