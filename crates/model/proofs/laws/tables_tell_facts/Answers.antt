use Rattle.model.proofs.Verdicts.{search_laws}
use Rattle.model.proofs.laws.tables_tell_facts.Goals as goal

pub returns : goal.returns
returns c = search_laws
