use Rattle.std.proofs.Common.{◌≡◌, ◌*◌, ◌≤◌}
use Rattle.model.specs.Program.{offset}
use Rattle.recipe.specs.Bytes.{program_of}
use Rattle.explaining.proofs.bytes.nodes_before.Given as goal

abbrev pub invariant-loop-j : goal.invariant-loop-j
invariant-loop-j l = (l.sum ≡ offset (program_of l.file).methods l.j) × (l.sum ≤ 65536 * l.j)
