use Rattle.std.specs.Fmt.{HasWritten, IsPlainFormatter}
use Rattle.recipe.specs.Recipes.{program}
use Rattle.inspect.specs.Answers.{answers_of}
use Rattle.inspect.proofs.answers.AnswersDisplay.fmt.Given as goal

abbrev pub invariant-loop-n : goal.invariant-loop-n
invariant-loop-n g l = IsPlainFormatter l.fn.f → HasWritten g.W.Write.write_str_gives l.fn.f (answers_of (program l.self.recipe.now) l.self.entries.now l.n) l.f
