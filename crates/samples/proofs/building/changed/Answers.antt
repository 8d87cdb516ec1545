use Rattle.std.proofs.Common.{◌<◌, length, vec_len, sym, refl, ap, ◌∙◌, arith, length-set, get_or, set}
use Rattle.std.proofs.lemmas.List.Elements.{All-more}
use Rattle.samples.specs.Building.{with_changes}
use Rattle.samples.proofs.Lists.{changes_more}
use Rattle.samples.proofs.building.changed.Goals as goal

pub loop-at-init : goal.loop-at-init
unfolding with_changes
loop-at-init c = record { made = refl; long = refl; within = λ k d h. absurd (omega arith) }

pub loop-at-preserved : goal.loop-at-preserved
loop-at-preserved c =
    let before = c.loop-at.invariant in
    let cs = c.args.changes.now in
    let i = c.loop-at.at-index in
    let x = get_or cs i (0, 0) in
    let there : x.0 < vec_len c.loop-at.copy = c.get_mut.ensures.variant.0 (sym c.in_ok-ok_or.ensures.variant) in
    let here : x.0 < length c.in_ok-copy.copy.items = omega (arith, c.loop-at.copy.ok.0) in
    record {
      made = ap (λ l. set l x.0 x.1) before.made ∙ sym (changes_more c.in_ok-copy.copy.items cs i c.loop-at-test.true);
      long = length-set c.loop-at.copy.items x.0 x.1 ∙ before.long;
      within = All-more (λ c'. c'.0 < length c.in_ok-copy.copy.items) cs i (0, 0) c.loop-at-test.true before.within here;
    }
