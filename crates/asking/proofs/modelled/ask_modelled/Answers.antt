use Rattle.std.proofs.Common.{length, drop}
use Rattle.recipe.specs.Recipes.{own_edges}
use Rattle.recipe.proofs.Standing.{stands}
use Rattle.inquiry.specs.Histories.{opened_on}
use Rattle.asking.specs.Asked.{made_of}
use Rattle.asking.proofs.Modelling.{ask_models}
use Rattle.asking.proofs.modelled.ask_modelled.Goals as goal

pub returns-clause-modelled : goal.returns-clause-modelled
returns-clause-modelled g c =
    let on = c.args.on.now in
    let C = opened_on g.R.AccessRule.meaning g.W.Watch.watching on (length c.args.facts.now) (length c.args.edges.now) in
    let made = made_of c.args.replies.now c.args.output.now c.args.requests.now in
    ask_models g.R.Modelled.traces C made c.ask.new.replies c.args.replies.now c.ask.new.facts c.ask.new.output c.ask.result (λ es t obey. g.met.R.Modelled.agrees on.rule.now C.program (own_edges on.recipe.now) es C.watch t (stands on.recipe.now) obey)
    c.ask.ensures.replies c.ask.ensures.answer c.ask.ensures.told
