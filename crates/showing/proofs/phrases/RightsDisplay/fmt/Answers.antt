use Rattle.std.proofs.Common.{rules, ◌≡◌, ℕ, List, [], ◌∷◌, ◌++◌, Bor, sym, refl, ap, ◌∙◌}
use Rattle.std.proofs.Output.{has_written_append, has_written_of_eq, writes_in_calls_nil}
use Rattle.std.specs.Fmt.{decimal}
use Rattle.showing.specs.Phrases.{rights_below, spaced}
use Rattle.showing.proofs.Rows.{rights_with, rights_without, gap_after, spaced_more, gap_more}
use Rattle.showing.proofs.phrases.RightsDisplay.fmt.Goals.{then-self-right-eq1+in_ok-write, else-self-right-eq1}
use Rattle.showing.proofs.phrases.RightsDisplay.fmt.Goals as goal

pub loop-right-init : goal.loop-right-init
unfolding rights_below
loop-right-init g c = record { written = λ p. record { wrote = writes_in_calls_nil _ _; plain = p }; gap = refl; text = search rules }

pub loop-right-preserved : goal.loop-right-preserved
loop-right-preserved g c =
    let set = c.args.self.now.0 in
    let n = c.loop-right.right-counter in
    let before = c.loop-right.invariant in
    elim c.if-self-right-eq1.branch [
      | then-self-right-eq1+in_ok-write w ↦
          let more = rights_with set n w.if-self-right-eq1.true in
          let blank : c.if-self-right-eq1.gap.now ≡ 32 ∷ [] = ap (λ (b : Bor (List ℕ)). b.now) w.gap-is in
          record {
            written = λ p.
                let sofar = before.written p in
                let next = w.in_ok-write.ensures.writes sofar.plain refl in
                let text = ap (λ l. spaced (rights_below set n) ++ (l ++ decimal n)) before.gap ∙ sym (ap spaced more ∙ spaced_more (rights_below set n) n) in
                rw w.f-is (has_written_of_eq _ _ _ _ _ text (has_written_append _ _ _ _ _ _ sofar next));
            gap = blank ∙ sym (ap gap_after more ∙ gap_more (rights_below set n) n);
            text = rw blank (search rules);
          }
      | else-self-right-eq1 w ↦
          let same = rights_without set n w.if-self-right-eq1.false in
          rw (same, w.f-is, w.gap-is) before
    ]
