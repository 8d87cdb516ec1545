use Rattle.std.proofs.Common.{take}
use Rattle.asking.proofs.Files.{if_linked}
use Rattle.asking.proofs.saving.write_linked.Goals as goal

pub returns-clause-linked : goal.returns-clause-linked
returns-clause-linked c =
    λ C rs program_is own_is reached.
    if_linked C rs c.args.recipe.now program_is own_is c.args.inquiry.now c.args.edges.now reached c.write.result (λ n. take n c.write.new.out) _ (c.in_ok-edges_in_use.ensures.history C rs reached) c.write.ensures.means
