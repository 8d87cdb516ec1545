use Rattle.std.proofs.Common.{Some, sym, ap, ◌∙◌, arith}
use Rattle.std.proofs.lemmas.Option.{slice_get_past}
use Rattle.recipe.proofs.Standing.{methods_count, nth_method}
use Rattle.recipe.proofs.Recipe.method.Goals as goal

pub method-requires : goal.method-requires
method-requires c = let h = methods_count c.args.self.now in omega arith

pub returns-then-k-methods : goal.returns-then-k-methods
returns-then-k-methods c = ap Some c.method.ensures ∙ sym (nth_method c.args.self.now c.args.k (omega arith))

pub returns-else-k-methods : goal.returns-else-k-methods
returns-else-k-methods c = sym (slice_get_past _ c.args.k (omega arith))
