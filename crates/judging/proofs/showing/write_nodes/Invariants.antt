use Rattle.std.proofs.Common.{take}
use Rattle.std.specs.Fmt.{HasWritten, IsPlainFormatter}
use Rattle.judging.specs.Printed.{nodes_text}
use Rattle.judging.proofs.showing.write_nodes.Given as goal

abbrev pub invariant-loop-node : goal.invariant-loop-node
invariant-loop-node g l = IsPlainFormatter l.fn.f → HasWritten g.W.Write.write_str_gives l.fn.f (nodes_text (take l.node-index l.nodes)) l.f
