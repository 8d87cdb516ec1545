use Rattle.std.proofs.Common.{◌≡◌, ◌+◌, ◌*◌, ◌++◌, ◌∷◌, [], length, take, drop, subst, ap, ◌∙◌, rules, arith}
use Rattle.std.specs.Slice.Iter.{iter_rest}
use Rattle.recipe.specs.Recipes.{program}
use Rattle.recipe.specs.Sequences.{left_in_list}
use Rattle.recipe.specs.Writing.{listed_edges}
use Rattle.recipe.proofs.Puts.{Sofar, sofar_more, sofar_end}
use Rattle.recipe.proofs.Standing.{counted_small}
use Rattle.recipe.proofs.Recipe.put_edges.Goals as goal

pub edge_bytes-requires : goal.edge_bytes-requires
edge_bytes-requires c =
    let it = c.loop-i.i-iterator.iter in
    let next : left_in_list it ≡ c.in-Some.e ∷ left_in_list c.next.new.self.iter = search rules in
    counted_small it.recipe.now it.last (iter_rest it.edges) c.in-Some.e _ next

pub loop-i-preserved : goal.loop-i-preserved
loop-i-preserved c =
    let it = c.loop-i.i-iterator in
    let then = c.next.new.self in
    let all = listed_edges (program c.args.self.now) c.args.edges.now in
    let next : left_in_list it.iter ≡ c.in-Some.e ∷ left_in_list then.iter = search rules in
    let here : c.in-Some.i ≡ it.count = search rules in
    let one : then.count ≡ it.count + 1 = search rules in
    let n = ap length next in
    let room = c.loop-i.invariant.room in
    let place = c.args.at + 4 * it.count in
    let put = c.put.ensures ∙ ap (λ i. take (c.args.at + 4 * i) c.loop-i.out ++ (c.edge_bytes.result ++ drop (c.args.at + 4 * i + length c.edge_bytes.result) c.loop-i.out)) here in
    let more : place + 4 ≡ c.args.at + 4 * then.count = omega arith in
    subst (λ p. Sofar all c.args.at c.args.out.now p c.put.new.out (left_in_list then.iter)) more
    (sofar_more all c.args.at c.args.out.now place c.loop-i.out _ c.in-Some.e _ c.edge_bytes.result c.put.new.out c.loop-i.invariant next c.edge_bytes.ensures (omega arith) put)

pub returns : goal.returns
returns c =
    let it = c.loop-i.i-iterator in
    let none : left_in_list it.iter ≡ [] = search rules in
    sofar_end (listed_edges (program c.args.self.now) c.args.edges.now) c.args.at c.args.out.now (c.args.at + 4 * it.count) c.loop-i.out (left_in_list it.iter) c.loop-i.invariant none
