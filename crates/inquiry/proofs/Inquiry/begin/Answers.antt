use Rattle.std.proofs.Common.{ap, ◌∙◌, length, arith, rules}
use borrow.Author.Tests.{tests}
use Rattle.std.proofs.lemmas.Iterator.{YieldsList-from_range, YieldsList-from_map}
use Rattle.std.proofs.lemmas.Iterator.Consumers.{YieldsList-at, YieldsList-from_filter}
use Rattle.model.specs.Program.{is_entry_of}
use Rattle.model.specs.Tables.{first_row, offer_all}
use Rattle.recipe.specs.Recipes.{own_edges}
use Rattle.rules.specs.Subjects.{setting_of}
use Rattle.inquiry.specs.Inquiries.{state_of}
use Rattle.inquiry.proofs.Drained.{drained, each_passed}
use Rattle.inquiry.proofs.Inquiry.begin.Goals as goal

pub returns-clause-state : goal.returns-clause-state
returns-clause-state g c =
    let t = c.args.self.now in
    let X = setting_of g.R.AccessRule.meaning g.W.Watch.watching c.args.on.now (own_edges c.args.on.now.recipe.now) in
    let nodes = length X.program.nodes in
    let entry = is_entry_of X.program 0 in
    let row = first_row X in
    let offered = c.offer_each.ensures.state in
    offered.2 ∙ ap (offer_all t.places (state_of t))
    (drained offered.0 offered.1
    (YieldsList-from_map _ row
    (YieldsList-at c.map.ensures.source (YieldsList-from_filter _ entry (YieldsList-from_range 0 c.nodes.result nodes c.filter.ensures.source (omega (arith, c.nodes.ensures))) c.filter.ensures.closure (λ x b q k. search (rules, tests))))
    c.map.ensures.closure (λ x r q k. search (rules, tests)))
    ∙ each_passed entry row nodes)
