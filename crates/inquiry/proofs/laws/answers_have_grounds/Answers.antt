use Rattle.inquiry.proofs.Grounds.{answer_laws}
use Rattle.inquiry.proofs.laws.answers_have_grounds.Goals as goal

pub returns : goal.returns
returns c = answer_laws
