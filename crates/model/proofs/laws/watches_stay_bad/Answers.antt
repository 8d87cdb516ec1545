use Rattle.model.proofs.Watches.{watch_laws}
use Rattle.model.proofs.laws.watches_stay_bad.Goals as goal

pub returns : goal.returns
returns c = watch_laws
