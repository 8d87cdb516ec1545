use Rattle.std.proofs.Common.{refl, add-one}
use Rattle.std.proofs.Output.{has_written_append, writes_in_calls_nil}
use Rattle.inspect.specs.Watching.{states_of}
use Rattle.inspect.proofs.watching.write_states.Goals as goal

pub loop-state-init : goal.loop-state-init
unfolding states_of
loop-state-init g c = λ p. record { wrote = writes_in_calls_nil _ _; plain = p }

pub loop-state-preserved : goal.loop-state-preserved
unfolding states_of
loop-state-preserved g c = λ p. rw add-one (let sofar = c.loop-state.invariant p in has_written_append _ _ _ _ _ _ sofar (c.in_ok-write_state.ensures sofar.plain refl))
