use Rattle.std.proofs.Common.{arith}
use Rattle.recipe.proofs.Scans.{node_at_lem}
use Rattle.recipe.proofs.Layout.node_at.Goals as goal

pub returns : goal.returns
returns c = let e = node_at_lem c.args.self.now.file.now c.args.n (omega arith) in cc
