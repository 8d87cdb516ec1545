use Rattle.std.proofs.Common.{◌≡◌, ◌≤◌, length, subst, refl, sym, ap, add-one, arith}
use Rattle.model.specs.Program.{offset}
use Rattle.model.proofs.Sums.{offset_step, home_span, home_far}
use Rattle.recipe.specs.Bytes.{program_of}
use Rattle.recipe.proofs.Scans.{methods_length}
use Rattle.explaining.proofs.bytes.home.Goals as goal

pub loop-k-init : goal.loop-k-init
unfolding offset
loop-k-init c = (refl, omega arith)

pub returns-then-n-end : goal.returns-then-n-end
returns-then-n-end c =
    let ms = (program_of c.args.file.now).methods in
    let many = methods_length c.args.file.now in
    let step = offset_step ms c.loop-k.k in
    let own = ap (λ m. m.nodes) c.method.ensures.value in
    sym (home_span ms c.args.n c.loop-k.k (omega arith) (omega arith) (omega arith))

pub loop-k-preserved : goal.loop-k-preserved
loop-k-preserved c =
    let ms = (program_of c.args.file.now).methods in
    let step = offset_step ms c.loop-k.k in
    let own = ap (λ m. m.nodes) c.method.ensures.value in
    (rw add-one (omega arith), omega arith)

pub returns : goal.returns
returns c =
    let bs = c.args.file.now in
    let ms = (program_of bs).methods in
    let k : c.loop-k.k ≡ length ms = omega (arith, methods_length bs) in
    let far : offset ms (length ms) ≤ c.args.n = subst (λ k. offset ms k ≤ c.args.n) k (omega arith) in
    omega (arith, home_far ms c.args.n far)
