use Rattle.std.proofs.Common.{refl, ap, add-one, arith}
use Rattle.model.specs.Program.{offset}
use Rattle.model.proofs.Sums.{offset_step}
use Rattle.recipe.specs.Bytes.{program_of}
use Rattle.explaining.proofs.bytes.nodes_before.Goals as goal

pub loop-j-init : goal.loop-j-init
unfolding offset
loop-j-init c = (refl, omega arith)

pub loop-j-preserved : goal.loop-j-preserved
loop-j-preserved c =
    let step = offset_step (program_of c.args.file.now).methods c.loop-j.j in
    let own = ap (λ m. m.nodes) c.method.ensures.value in
    (rw add-one (omega arith), omega arith)
