use Rattle.model.proofs.Links.{link_laws}
use Rattle.model.proofs.laws.links_add_edges.Goals as goal

pub returns : goal.returns
returns c = link_laws
