use Rattle.std.proofs.Common.{◌++◌}
use Rattle.std.specs.Fmt.{HasWritten, IsPlainFormatter}
use Rattle.recipe.specs.Recipes.{program}
use Rattle.inspect.specs.Watching.{head_text, marks_of}
use Rattle.inspect.proofs.watching.WatchingDisplay.fmt.Given as goal

abbrev pub invariant-loop-mark : goal.invariant-loop-mark
invariant-loop-mark g l = let p = program l.self.recipe.now in IsPlainFormatter l.fn.f → HasWritten g.W.Write.write_str_gives l.fn.f (head_text p ++ marks_of p l.mark) l.f
