use Rattle.std.proofs.Common.{◌≡◌, true, false, rules}
use borrow.Author.Tests.{tests}
use Rattle.std.proofs.lemmas.Iterator.{first_from_Range}
use Rattle.model.specs.Tables.{joins, row_at}
use Rattle.inquiry.specs.Inquiries.{scene_of}
use Rattle.inquiry.proofs.Inquiry.next_return.Goals as goal

pub returns : goal.returns
returns g c =
    let X = scene_of g.R.AccessRule.meaning g.W.Watch.watching c.args.scene.now in
    first_from_Range _ c.find.new.self _ c.find.result (λ j. joins X c.args.call.fact (row_at c.args.self.now.facts.now j) ≡ true) (λ j. joins X c.args.call.fact (row_at c.args.self.now.facts.now j) ≡ false) c.find.ensures.ran
    (λ x q k. search (rules, tests)) (λ x q k. search (rules, tests))
