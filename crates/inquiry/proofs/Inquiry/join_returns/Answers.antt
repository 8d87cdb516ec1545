use Rattle.std.proofs.Common.{◌+◌, ◌<◌, ◌++◌, ap, ◌∙◌, arith}
use Rattle.model.specs.Tables.{each_from, return_at, backs, row_at}
use Rattle.inquiry.specs.Inquiries.{scene_of, state_of}
use Rattle.inquiry.proofs.Growing.{going_some, going_on, going_end, each_first, each_none, no_return, a_return}
use Rattle.inquiry.proofs.Hanging.{row_later}
use Rattle.inquiry.proofs.Inquiry.join_returns.Goals as goal

pub loop-at-preserved : goal.loop-at-preserved
loop-at-preserved g c =
    let X = scene_of g.R.AccessRule.meaning g.W.Watch.watching c.args.scene.now in
    let b = c.args.self.now in
    let t = c.loop-at.self in
    let own = c.args.call in
    let f = return_at X (state_of b).rows own.at own.fact in
    let at = c.in-Some.at in
    let found = c.in-Some.ensures in
    let grown = c.loop-at.invariant.grown in
    let held : own.at < b.held = c.requires.0 in
    let lt : at < own.at = found.1 in
    going_some (backs X own.at own.fact at (row_at t.facts.now at)) (each_from (at + 1) own.at f)
    (going_on (each_first c.loop-at.from at own.at f found.0 lt (λ k low high. no_return X grown own.at own.fact k (omega arith) (found.3 k low high))
    ∙ ap (λ xs. xs ++ each_from (at + 1) own.at f) (a_return X grown own.at own.fact at (omega arith) found.2)) c.loop-at.invariant)
    c.come_back.ensures.state c.come_back.ensures.grown

pub returns : goal.returns
returns g c =
    let X = scene_of g.R.AccessRule.meaning g.W.Watch.watching c.args.scene.now in
    let b = c.args.self.now in
    let own = c.args.call in
    let grown = c.loop-at.invariant.grown in
    let held : own.at < b.held = c.requires.0 in
    record {
      state = going_end (going_on (each_none c.loop-at.from own.at (return_at X (state_of b).rows own.at own.fact) (λ k low high. no_return X grown own.at own.fact k (omega arith) (c.in_default.ensures k low high))) c.loop-at.invariant);
      grown = grown;
    }

pub come_back-requires-clause-call : goal.come_back-requires-clause-call
come_back-requires-clause-call g c = row_later c.args.call c.loop-at.invariant.grown c.requires
