use Rattle.std.specs.Fmt.{HasWritten, IsPlainFormatter}
use Rattle.recipe.specs.Recipes.{program}
use Rattle.inspect.specs.Watching.{states_of}
use Rattle.inspect.proofs.watching.write_states.Given as goal

abbrev pub invariant-loop-state : goal.invariant-loop-state
invariant-loop-state g l = IsPlainFormatter l.fn.f → HasWritten g.W.Write.write_str_gives l.fn.f (states_of (program l.recipe) l.mark l.state) l.f
