use Rattle.std.proofs.Common.{arith}
use Rattle.std.proofs.lemmas.Grind.{common_steps}
use Rattle.inspect.proofs.steps.TargetsDisplay.fmt.Goals as goal

pub loop-edge-init : goal.loop-edge-init
loop-edge-init g c = grind (arith, common_steps)

pub loop-edge-preserved : goal.loop-edge-preserved
loop-edge-preserved g c = grind (arith, common_steps)

pub returns-after-loop-edge-clause-writes : goal.returns-after-loop-edge-clause-writes
returns-after-loop-edge-clause-writes g c = grind (arith, common_steps)
