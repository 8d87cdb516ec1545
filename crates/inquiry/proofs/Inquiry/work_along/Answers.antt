use Rattle.std.proofs.Common.{sym, ◌∙◌, arith}
use Rattle.rules.specs.Subjects.{setting_of}
use Rattle.inquiry.specs.Inquiries.{state_of}
use Rattle.inquiry.proofs.Growing.{grown_again}
use Rattle.inquiry.proofs.Steps.{dug_none}
use Rattle.inquiry.proofs.Inquiry.work_along.Goals as goal

pub returns-then-left-gt0-clause-grown : goal.returns-then-left-gt0-clause-grown
returns-then-left-gt0-clause-grown g c = grown_again c.work_until_laid-left.ensures.grown c.work_laid.ensures.grown

-- none of those allowed is left, so the rest of the dig is no more than what is there
pub returns-else-left-gt0-clause-state : goal.returns-else-left-gt0-clause-state
returns-else-left-gt0-clause-state g c =
    let X = setting_of g.R.AccessRule.meaning g.W.Watch.watching c.args.on.now c.args.edges.now in
    let before = c.work_until_laid-left in
    sym (dug_none X c.args.self.now.places (state_of before.new.self) before.result (omega (arith, c.if-left-gt0.false))) ∙ before.ensures.state
