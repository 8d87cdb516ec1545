-- A recipe with one edge more.
use Rattle.std.specs.Prelude.{[], ◌∷◌, ◌++◌}
use Rattle.model.specs.declared.Edge.{Edge}
use Rattle.model.specs.Access.{Rule}
use Rattle.model.specs.Facts.{Setting}
use Rattle.model.specs.Program.{Program}
use Rattle.model.specs.Watches.{Watch}
use Rattle.recipe.specs.Recipes.{program, own_edges}
use Rattle.rules.specs.declared.subject.Subject.{Subject}

-- a recipe with its own edges and this one, under what the rule and the watch mean
abbrev pub linked_with : {R W : Type 0} → (R → Program → Rule) → (W → Watch) → Subject R W → Edge → Setting
linked_with meaning watching on e = record {
  program = program on.recipe.now;
  edges = own_edges on.recipe.now ++ e ∷ [];
  rule = meaning on.rule.now (program on.recipe.now);
  watch = watching on.watch.now;
}
