use Rattle.std.proofs.Common.{◌≡◌, ◌++◌, None, rules}
use Rattle.recipe.specs.Format.{Legal}
use Rattle.recipe.specs.Offence.{first_offence, take_tests, check_tests}
use Rattle.judging.specs.Judged.{sizes_of}
use Rattle.judging.proofs.Fitting.{right_in}
use Rattle.judging.proofs.deciding.judge_in.Goals as goal

pub returns-clause-tells : goal.returns-clause-tells
returns-clause-tells c =
    let bs = c.args.file.now in
    let none : first_offence (take_tests bs ++ check_tests bs) ≡ None = search rules in
    let legal : Legal bs = search rules in
    right_in (sizes_of c.args.facts.now c.args.edges.now c.args.history.now c.args.stack.now) bs none legal
