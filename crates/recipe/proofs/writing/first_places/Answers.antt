use Rattle.std.proofs.Common.{rules}
use Rattle.std.proofs.lemmas.List.{take_min}
use Rattle.recipe.proofs.writing.first_places.Goals as goal

pub returns-clause-value : goal.returns-clause-value
returns-clause-value c = let m = take_min 4096 c.args.edges.now in search rules
