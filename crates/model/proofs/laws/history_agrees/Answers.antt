use Rattle.model.proofs.Agreeing.{history_agrees}
use Rattle.model.proofs.laws.history_agrees.Goals as goal

pub returns : goal.returns
returns c = history_agrees
