use Rattle.std.proofs.Common.{subst, sym, rules}
use Rattle.inquiry.specs.Promises.{Right}
use Rattle.inquiry.proofs.Wholes.{judged_right}
use Rattle.inquiry.proofs.Reaching.{verdict_next}
use Rattle.inquiry.proofs.Inquiry.verdict.Goals as goal

pub returns-clause-right : goal.returns-clause-right
returns-clause-right g c =
    let W = g.W.Watch.watching c.args.watch.now in
    subst (Right W c.args.self.now) (sym c.judge.ensures) (judged_right W c.args.self.now)

pub returns-clause-history : goal.returns-clause-history
returns-clause-history g c = λ C table same. verdict_next C c.args.self.now table _ (g.W.Watch.watching c.args.watch.now) (sym same) (search rules)
