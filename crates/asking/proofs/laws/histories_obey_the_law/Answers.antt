use Rattle.asking.proofs.Clauses.{asking_law}
use Rattle.asking.proofs.laws.histories_obey_the_law.Goals as goal

pub returns : goal.returns
returns c = asking_law
