use Rattle.std.proofs.Common.{◌∷◌, get_or, take}
use Rattle.std.specs.Fmt.{HasWritten, IsPlainFormatter}
use Rattle.model.specs.Program.{no_edge}
use Rattle.inspect.specs.Phrases.{targets_text}
use Rattle.inspect.proofs.steps.TargetsDisplay.fmt.Given as goal

abbrev pub invariant-loop-edge : goal.invariant-loop-edge
invariant-loop-edge g l = IsPlainFormatter l.fn.f → HasWritten g.W.Write.write_str_gives l.fn.f (targets_text (get_or l.self.0.now 0 no_edge ∷ take l.edge-index l.others)) l.f
