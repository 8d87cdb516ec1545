use Rattle.model.proofs.Summaries.{facts_sum_up_runs}
use Rattle.model.proofs.laws.facts_sum_up_runs.Goals as goal

pub returns : goal.returns
returns c = facts_sum_up_runs
