use Rattle.std.proofs.Common.{[], ◌∷◌, sym, ◌∙◌, subst}
use Rattle.std.specs.Iterator.{Yields}
use Rattle.model.specs.Tables.{offer, offer_all}
use Rattle.model.proofs.Held.{offers_nil, offers_cons, offers_append}
use Rattle.inquiry.specs.Inquiries.{state_of}
use Rattle.inquiry.proofs.Growing.{grown_same, grown_again}
use Rattle.inquiry.proofs.Hanging.{hangs_later}
use Rattle.inquiry.proofs.Inquiry.offer_each.Goals as goal

pub loop-row-init : goal.loop-row-init
loop-row-init g c = let t = c.args.self.now in (sym (offers_nil t.places (state_of t)), grown_same t)

pub loop-row-preserved : goal.loop-row-preserved
loop-row-preserved g c =
    let b = c.args.self.now in
    let t = c.loop-row.self in
    let row = c.in-Some.row in
    let grown = c.loop-row.invariant.1 in (
      c.offer.ensures.state ∙ (λ i. offer (grown.places i) (c.loop-row.invariant.0 i) row)
          ∙ sym (offers_append b.places (state_of b) c.loop-row.yielded (row ∷ [])
          ∙ offers_cons b.places (offer_all b.places (state_of b) c.loop-row.yielded) row []
          ∙ offers_nil b.places (offer b.places (offer_all b.places (state_of b) c.loop-row.yielded) row)),
      grown_again grown c.offer.ensures.grown,
    )

pub offer-requires : goal.offer-requires
offer-requires g c =
    let held = c.loop-row.invariant.1 in
    hangs_later held c.in-Some.row (c.requires.hang c.loop-row.yielded c.in-Some.row c.loop-row.row-iterator c.next.new.self (subst (λ s. Yields g.I.Iterator.next_gives s c.loop-row.yielded c.loop-row.row-iterator) c.into_iter-row-iterator.ensures.into_iter_gives c.loop-row.yielded_by) c.in-Some.ensures.steps)
