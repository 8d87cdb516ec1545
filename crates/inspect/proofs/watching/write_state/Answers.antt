use Rattle.std.proofs.Common.{Bool, ◌++◌, codes, if◌then◌else◌, sym, ap, ◌∙◌}
use Rattle.std.proofs.Output.{has_written_of_eq}
use Rattle.std.proofs.lemmas.Bool.{eq-eqb, ne_eqb}
use Rattle.model.specs.Watches.{table_watch}
use Rattle.recipe.specs.Recipes.{program}
use Rattle.inspect.specs.declared.asked.Going.{Going}
use Rattle.inspect.specs.Phrases.{going_text}
use Rattle.inspect.specs.Watching.{state_text}
use Rattle.inspect.proofs.watching.write_state.Goals as goal

pub returns-then-state-eq0 : goal.returns-then-state-eq0
unfolding state_text
returns-then-state-eq0 g c = λ p ok.
    let w = table_watch (program c.args.recipe.now).rows in
    let rest = going_text c.args.state (w.step c.args.state c.args.mark) (w.bad (w.step c.args.state c.args.mark)) in
    has_written_of_eq _ _ _ _ _ (ap (λ (g : Going). codes " " ++ going_text g.state g.next g.bad) c.ask-going.ensures
    ∙ ap (λ (b : Bool). (if b then codes " " else codes ", ") ++ rest) (sym (eq-eqb c.args.state 0 c.if-state-eq0.true))) (c.write.ensures.writes p ok)

pub returns-else-state-eq0 : goal.returns-else-state-eq0
unfolding state_text
returns-else-state-eq0 g c = λ p ok.
    let w = table_watch (program c.args.recipe.now).rows in
    let rest = going_text c.args.state (w.step c.args.state c.args.mark) (w.bad (w.step c.args.state c.args.mark)) in
    has_written_of_eq _ _ _ _ _ (ap (λ (g : Going). codes ", " ++ going_text g.state g.next g.bad) c.ask-going.ensures
    ∙ ap (λ (b : Bool). (if b then codes " " else codes ", ") ++ rest) (sym (ne_eqb c.args.state 0 c.if-state-eq0.false))) (c.write-else-state-eq0.ensures.writes p ok)
