use Rattle.std.proofs.Common.{◌≡◌, true, false, rules}
use borrow.Author.Tests.{tests}
use Rattle.std.proofs.lemmas.Iterator.{YieldsList-from_slice, IsFirst-from_position}
use Rattle.model.specs.Tables.{same_fact}
use Rattle.inquiry.specs.Inquiries.{state_of}
use Rattle.inquiry.proofs.Looking.{found_is}
use Rattle.inquiry.proofs.Inquiry.place_of.Goals as goal

pub returns : goal.returns
returns c =
    let t = c.args.self.now in
    let f = c.args.fact in
    let found = found_is f (state_of t).rows c.position.result
    (IsFirst-from_position c.position.new.self _ _ (λ r. same_fact r f ≡ true) (λ r. same_fact r f ≡ false) c.position.ensures.ran
    (YieldsList-from_slice (state_of t).rows cc) (λ x q k. search (rules, tests)) (λ x q k. search (rules, tests))) in
    record { found = found.0; place = found.1 }
