use Rattle.std.proofs.Common.{rules}
use Rattle.recipe.proofs.Standing.{stands}
use Rattle.rules.proofs.table.TableWatchWatch.states.Goals as goal

pub overflow_add-result : goal.overflow_add-result
overflow_add-result c = let few = (stands c.args.self.now.recipe.now).few_rows in search rules
