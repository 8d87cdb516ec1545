use Rattle.std.proofs.Common.{refl, sym, ◌∙◌, add-one, append_assoc}
use Rattle.std.proofs.Output.{has_written_append, has_written_of_eq}
use Rattle.std.proofs.lemmas.List.{append-nil}
use Rattle.recipe.specs.Recipes.{program}
use Rattle.inspect.specs.Watching.{head_of, head_text, mark_text, marks_of}
use Rattle.inspect.proofs.watching.WatchingDisplay.fmt.Goals as goal

pub loop-mark-init : goal.loop-mark-init
unfolding head_text marks_of
loop-mark-init g c = λ p.
    has_written_of_eq _ _ _ _ _ ((λ i. head_of (c.states.ensures.answer i) (c.start-start.ensures.answer i)) ∙ sym (append-nil (head_text (program c.args.self.now.recipe.now)))) (c.in_ok-writeln.ensures.writes p refl)

pub loop-mark-preserved : goal.loop-mark-preserved
unfolding marks_of
loop-mark-preserved g c = λ plain.
    let p = program c.args.self.now.recipe.now in
    let n = c.loop-mark.mark in
    let sofar = c.loop-mark.invariant plain in
    rw add-one (has_written_of_eq _ _ _ _ _ (append_assoc (head_text p) (marks_of p n) (mark_text p n)) (has_written_append _ _ _ _ _ _ sofar (c.in_ok-write_mark.ensures sofar.plain refl)))
