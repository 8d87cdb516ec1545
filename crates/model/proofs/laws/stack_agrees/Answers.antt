use Rattle.model.proofs.Agreeing.{stack_agrees}
use Rattle.model.proofs.laws.stack_agrees.Goals as goal

pub returns : goal.returns
returns c = stack_agrees
