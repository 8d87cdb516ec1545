use Rattle.std.proofs.Common.{refl, add-one}
use Rattle.std.proofs.Output.{has_written_append, writes_in_calls_nil}
use Rattle.inspect.specs.Answers.{answers_of}
use Rattle.inspect.proofs.answers.AnswersDisplay.fmt.Goals as goal

pub loop-n-init : goal.loop-n-init
unfolding answers_of
loop-n-init g c = λ p. record { wrote = writes_in_calls_nil _ _; plain = p }

pub loop-n-preserved : goal.loop-n-preserved
unfolding answers_of
loop-n-preserved g c = λ p. rw add-one (let sofar = c.loop-n.invariant p in has_written_append _ _ _ _ _ _ sofar (c.in_ok-write_answer.ensures sofar.plain refl))
