use Rattle.std.proofs.Common.{◌≡◌, ℕ, suc, ◌+◌, ◌≤◌, [], ◌∷◌, ◌++◌, length, map, take, drop, set, Ok, sym, ap, ◌∙◌, subst, rules, arith}
use Rattle.std.specs.Slice.Iter.{iter_rest}
use Rattle.std.proofs.lemmas.List.{length-take, length-map}
use Rattle.inquiry.specs.Histories.{opened_on, after}
use Rattle.asking.specs.Asked.{within, made_of, recorded}
use Rattle.asking.specs.Made.{Made}
use Rattle.model.proofs.Nexts.{next_rest}
use Rattle.asking.proofs.Carrying.{Going, front_none, going_start, going_on, end_answer, end_log, end_facts, end_edges, end_output, end_same}
use Rattle.asking.proofs.Clauses.{asking_law}
use Rattle.asking.proofs.Ended.{ask_tells}
use Rattle.asking.proofs.asking.ask.Goals as goal

pub loop-place-init : goal.loop-place-init
loop-place-init g c =
    let opens = c.open-inquiry.ensures in
    let it = c.into_iter-place-iterator.result in
    let made = made_of c.args.replies.now c.args.output.now c.args.requests.now in
    let none : 0 ≡ it.count = search rules in
    let left : take it.iter.n (iter_rest it.iter.iter) ≡ take (length c.args.replies.now) c.args.requests.now = search rules in (
      subst (λ n. Going g.R.AccessRule.meaning g.W.Watch.watching c.args.on.now (length c.args.facts.now) (length c.args.edges.now) c.args.output.now c.open-inquiry.result c.open-inquiry.new.edges (made_of c.args.replies.now c.args.output.now c.args.requests.now) c.args.replies.now n c.open-inquiry.result c.open-inquiry.new.edges c.args.output.now c.args.replies.now) none
          (going_start g.R.AccessRule.meaning g.W.Watch.watching c.args.on.now (length c.args.facts.now) (length c.args.edges.now) c.args.output.now c.open-inquiry.result c.open-inquiry.new.edges made c.args.replies.now opens.refusal opens.opening opens.history),
      ap (map (within (length c.args.output.now))) left ∙ ap (λ n. drop n made) none,
    )

pub loop-place-preserved : goal.loop-place-preserved
loop-place-preserved g c =
    let places = length c.args.output.now in
    let made = made_of c.args.replies.now c.args.output.now c.args.requests.now in
    let so = c.loop-place.invariant in
    let it = c.loop-place.place-iterator in
    let then = c.next.new.self in
    let r = within places c.in-Some.request.now in
    let rest = map (within places) (take then.iter.n (iter_rest then.iter.iter)) in
    let here : c.in-Some.place ≡ it.count = search rules in
    let one : then.count ≡ it.count + 1 = search rules in
    let less : then.iter.n + 1 ≡ it.iter.n = search rules in
    let step : iter_rest it.iter.iter ≡ c.in-Some.request.now ∷ iter_rest then.iter.iter = search rules in
    let front : take it.iter.n (iter_rest it.iter.iter) ≡ c.in-Some.request.now ∷ take then.iter.n (iter_rest then.iter.iter) = λ k. take ((let e : it.iter.n ≡ suc then.iter.n = omega arith in e) k) (step k) in
    let next : drop it.count made ≡ r ∷ rest = sym so.1 ∙ ap (map (within places)) front in
    let room : length made ≤ length c.args.replies.now = let n = length-take (length c.args.replies.now) c.args.requests.now in let m = length-map (take (length c.args.replies.now) c.args.requests.now) (within places) in omega arith in
    let made_here = subst (λ n. Made g.R.AccessRule.meaning g.W.Watch.watching c.args.on.now (within n c.in-Some.request.now) c.loop-place.inquiry c.loop-place.edges c.loop-place.output c.make.new.inquiry c.make.new.edges c.make.new.output c.make.result) c.loop-place.auto.output c.make.ensures in (
      subst (λ (p : ℕ × ℕ). Going g.R.AccessRule.meaning g.W.Watch.watching c.args.on.now (length c.args.facts.now) (length c.args.edges.now) c.args.output.now c.open-inquiry.result c.open-inquiry.new.edges (made_of c.args.replies.now c.args.output.now c.args.requests.now) c.args.replies.now p.0 c.make.new.inquiry c.make.new.edges c.make.new.output (set c.loop-place.replies p.1 c.make.result)) (λ k. (sym one k, sym here k))
          (going_on g.R.AccessRule.meaning g.W.Watch.watching c.args.on.now (length c.args.facts.now) (length c.args.edges.now) c.args.output.now c.open-inquiry.result c.open-inquiry.new.edges made c.args.replies.now it.count c.loop-place.inquiry c.loop-place.edges c.loop-place.output c.loop-place.replies so.0 r rest next room made_here),
      next_rest made it.count r rest next ∙ ap (λ n. drop n made) (sym one),
    )

pub returns : goal.returns
returns g c =
    let m = g.R.AccessRule.meaning in
    let w = g.W.Watch.watching in
    let on = c.args.on.now in
    let places = length c.args.facts.now in
    let edge_places = length c.args.edges.now in
    let out = c.args.output.now in
    let first = c.open-inquiry.result in
    let lent = c.open-inquiry.new.edges in
    let made = made_of c.args.replies.now c.args.output.now c.args.requests.now in
    let old = c.args.replies.now in
    let it = c.loop-place.place-iterator in
    let so = c.loop-place.invariant in
    let opens = c.open-inquiry.ensures in
    let left : take it.iter.n (iter_rest it.iter.iter) ≡ [] = front_none it.iter.n (iter_rest it.iter.iter) (λ some. search rules) in
    let none : drop it.count made ≡ [] = sym so.1 ∙ ap (map (within (length out))) left in
    let same = end_same m w on places edge_places out first lent made old it.count c.loop-place.inquiry c.loop-place.edges c.loop-place.output c.loop-place.replies so.0 none ∙ opens.same in
    let closed = c.close.ensures.table in
    let answer = c.close.ensures.answer ∙ end_answer m w on places edge_places out first lent made old it.count c.loop-place.inquiry c.loop-place.edges c.loop-place.output c.loop-place.replies so.0 none (w on.watch.now) in
    let log = end_log m w on places edge_places out first lent made old it.count c.loop-place.inquiry c.loop-place.edges c.loop-place.output c.loop-place.replies so.0 none in
    let written = end_output m w on places edge_places out first lent made old it.count c.loop-place.inquiry c.loop-place.edges c.loop-place.output c.loop-place.replies so.0 none in
    let C = opened_on m w on places edge_places in
    let held = search rules ∙ end_facts m w on places edge_places out first lent made old it.count c.loop-place.inquiry c.loop-place.edges c.loop-place.output c.loop-place.replies so.0 none c.args.facts.now opens.state opens.rest in
    record {
      answer = answer;
      replies = log;
      facts = held;
      edges = end_edges m w on places edge_places out first lent made old it.count c.loop-place.inquiry c.loop-place.edges c.loop-place.output c.loop-place.replies so.0 none c.args.edges.now opens.edges;
      output = written;
      law = asking_law C;
      told = ask_tells C made c.loop-place.replies old _ c.args.facts.now c.loop-place.output out c.close.result log held written answer;
    }
