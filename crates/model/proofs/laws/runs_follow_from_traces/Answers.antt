use Rattle.model.proofs.Determined.{follows_from_trace}
use Rattle.model.proofs.laws.runs_follow_from_traces.Goals as goal

pub returns : goal.returns
returns c = follows_from_trace
