use Rattle.model.proofs.Worked.{worked_cases}
use Rattle.model.proofs.laws.worked_cases.Goals as goal

pub returns : goal.returns
returns c = worked_cases
