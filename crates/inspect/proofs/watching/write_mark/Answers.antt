use Rattle.std.proofs.Common.{Bool, [], ◌++◌, codes, if◌then◌else◌, refl, sym, ap, ◌∙◌}
use Rattle.std.specs.Fmt.{decimal}
use Rattle.std.proofs.Output.{has_written_append, has_written_of_eq, writes_in_calls_nil}
use Rattle.recipe.specs.Recipes.{program}
use Rattle.inspect.specs.Watching.{states_text, mark_text}
use Rattle.inspect.proofs.watching.write_mark.Goals as goal

pub returns-then-not-uses : goal.returns-then-not-uses
unfolding mark_text
returns-then-not-uses g c = λ p ok.
    let line = ((codes "  mark " ++ (decimal c.args.mark ++ codes ":")) ++ states_text (program c.args.recipe.now) c.args.mark) ++ codes "\n" in
    has_written_of_eq _ _ _ _ _ (ap (λ (b : Bool). if b then line else []) c.if-not-uses.ensures) (record { wrote = writes_in_calls_nil _ _; plain = p })

pub returns : goal.returns
unfolding mark_text
returns g c = λ p ok.
    let line = ((codes "  mark " ++ (decimal c.args.mark ++ codes ":")) ++ states_text (program c.args.recipe.now) c.args.mark) ++ codes "\n" in
    let first = c.in_ok-write.ensures.writes p refl in
    let second = has_written_append _ _ _ _ _ _ first (c.in_ok-write_states.ensures first.plain refl) in
    has_written_of_eq _ _ _ _ _ (ap (λ (b : Bool). if b then line else []) c.if-not-uses.ensures) (has_written_append _ _ _ _ _ _ second (c.write_str.ensures.writes second.plain ok))
