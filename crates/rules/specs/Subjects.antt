-- What a subject stands for, together with the edges that it is run along.
use Rattle.std.specs.Prelude.{List}
use Rattle.model.specs.declared.Edge.{Edge}
use Rattle.model.specs.Access.{Rule}
use Rattle.model.specs.Facts.{Setting}
use Rattle.model.specs.Program.{Program, counted}
use Rattle.model.specs.Watches.{Watch}
use Rattle.recipe.specs.Recipes.{program}
use Rattle.rules.specs.declared.subject.Subject.{Subject}

-- a recipe's program, the edges of a list that count, and what the rule and the watch mean
abbrev pub setting_of : {R W : Type 0} → (R → Program → Rule) → (W → Watch) → Subject R W → List Edge → Setting
setting_of meaning watching on edges = record {
  program = program on.recipe.now;
  edges = counted (program on.recipe.now) edges;
  rule = meaning on.rule.now (program on.recipe.now);
  watch = watching on.watch.now;
}
