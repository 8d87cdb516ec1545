use Rattle.std.proofs.Common.{◌≡◌, length, Ok, sym, ◌∙◌, subst, rules}
use Rattle.model.specs.Searches.{Sound}
use Rattle.model.specs.Tables.{opened, empty}
use Rattle.model.proofs.Searching.{opened_sound}
use Rattle.recipe.specs.Recipes.{own_edges}
use Rattle.rules.specs.Subjects.{setting_of}
use Rattle.inquiry.specs.Calls.{fit_answer}
use Rattle.inquiry.proofs.Answering.{leaves_new}
use Rattle.inquiry.proofs.Begun.{opened_is}
use Rattle.inquiry.proofs.Reaching.{open_reaches}
use Rattle.inquiry.proofs.Inquiry.open.Goals as goal

pub returns-clause-state : goal.returns-clause-state
returns-clause-state g c =
    let own = own_edges c.args.on.now.recipe.now in
    let X = setting_of g.R.AccessRule.meaning g.W.Watch.watching c.args.on.now own in
    let fits = fit_answer X (length own) (length c.args.facts.now) (length c.args.edges.now) in
    let ok : Ok tt ≡ fits = search rules in
    leaves_new fits _ (opened X (length c.args.facts.now)) empty ok (c.begin.ensures.state ∙ opened_is X (length c.args.facts.now))

pub returns-clause-sound : goal.returns-clause-sound
returns-clause-sound g c =
    let X = setting_of g.R.AccessRule.meaning g.W.Watch.watching c.args.on.now (own_edges c.args.on.now.recipe.now) in
    let places = length c.args.facts.now in
    λ _. subst (Sound X places) (sym (c.begin.ensures.state ∙ opened_is X places)) (opened_sound X places)

pub returns-clause-history : goal.returns-clause-history
returns-clause-history g c =
    λ ok. open_reaches g.R.AccessRule.meaning g.W.Watch.watching c.args.on.now _ _ (length c.args.facts.now) (length c.args.edges.now) c.args.edges.now ok (search rules) (search rules) (search rules) (search rules) (returns-clause-state g c) (search rules)
