use Rattle.std.proofs.Common.{◌≡◌, ◌<◌, true, false, MatchOption, subst, rules}
use borrow.Author.Tests.{tests}
use Rattle.std.proofs.lemmas.Iterator.{YieldsList-from_slice, IsFirst-from_position}
use Rattle.std.proofs.lemmas.List.{length-take-le}
use Rattle.model.specs.declared.Fact.{Fact}
use Rattle.model.specs.Tables.{any_bad, first_bad}
use Rattle.inquiry.specs.Inquiries.{state_of}
use Rattle.inquiry.proofs.Looking.{rows_fit, bad_found}
use Rattle.inquiry.proofs.Inquiry.first_bad.Goals as goal

pub returns : goal.returns
returns g c =
    let t = c.args.self.now in
    let rows = (state_of t).rows in
    let W = g.W.Watch.watching c.args.watch.now in
    subst (λ n. MatchOption c.position.result (any_bad W rows ≡ false) (λ i. (any_bad W rows ≡ true) × (i ≡ first_bad W rows) × (i < n))) (length-take-le t.held t.facts.now (rows_fit t))
    (bad_found W rows c.position.result
    (IsFirst-from_position c.position.new.self _ _ (λ (r : Fact). W.bad r.state ≡ true) (λ (r : Fact). W.bad r.state ≡ false) c.position.ensures.ran
    (YieldsList-from_slice rows cc) (λ x q k. search (rules, tests)) (λ x q k. search (rules, tests))))
