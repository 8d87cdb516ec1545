use Rattle.std.proofs.Common.{◌+◌, ◌*◌, ◌<◌, arith, rules}
use Rattle.std.proofs.lemmas.Nat.{or_lt}
use Rattle.std.proofs.lemmas.Bool.Decides.{nat_tests}
use Rattle.rules.proofs.wall.WallWatchWatch.step.Goals as goal

pub returns-clause-below : goal.returns-clause-below
returns-clause-below c =
    let few : c.from.result + 2 * c.from-2.result < 4 = search (rules, nat_tests) in
    or_lt 2 c.args.state (c.from.result + 2 * c.from-2.result) (omega arith) few
