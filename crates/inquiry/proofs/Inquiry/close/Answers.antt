use Rattle.std.proofs.Common.{sym, rules}
use Rattle.inquiry.proofs.Reaching.{end_is}
use Rattle.inquiry.proofs.Wholes.{report_right}
use Rattle.inquiry.proofs.Inquiry.close.Goals as goal

pub returns : goal.returns
returns g c =
    record {
      answer = c.report-answer.ensures;
      right = report_right (g.W.Watch.watching c.args.watch.now) c.args.self c.report-answer.result c.report-answer.ensures;
      table = search rules;
      history = λ C same. end_is C c.args.self _ _ (g.W.Watch.watching c.args.watch.now) (sym same) c.report-answer.ensures (search rules);
    }
