use Rattle.std.proofs.Common.{◌<◌, length, sym, refl, ◌∙◌, arith}
use Rattle.std.proofs.lemmas.List.{take_more_set, take-set, drop-set-lt, length-take-le}
use Rattle.inquiry.specs.Inquiries.{state_of}
use Rattle.model.proofs.Held.{offer_full, offer_held, offer_new, offer_past}
use Rattle.inquiry.proofs.Growing.{search_is, grown_same}
use Rattle.inquiry.proofs.Looking.{rows_fit}
use Rattle.inquiry.proofs.Inquiry.offer.Goals as goal
use Rattle.inquiry.proofs.Inquiry.offer.Goals.{then-self-via-then-self, then-self-via-else-self+then-is_some}

pub returns-then-self : goal.returns-then-self
returns-then-self c =
    let t = c.args.self.now in
    record {
      state = elim c.then-self.branch [
        | then-self-via-then-self w ↦ sym (offer_full t.places (state_of t) c.args.fact w.if-self.true)
        | then-self-via-else-self+then-is_some w ↦ sym (offer_held t.places (state_of t) c.args.fact (sym w.place_of.ensures.found ∙ sym w.if-is_some.ensures))
      ];
      grown = grown_same t;
    }

pub returns-then-held-self : goal.returns-then-held-self
returns-then-held-self c =
    let t = c.args.self.now in
    let fit = rows_fit t in
    let lt : t.held < length t.facts.now = omega (arith, t.lent, c.if-held-self.true) in
    let long = length-take-le t.held t.facts.now fit in
    record {
      state = search_is (take_more_set t.facts.now t.held c.args.fact lt) refl c.if-self.false
          ∙ sym (offer_new t.places (state_of t) c.args.fact c.if-self.false (sym c.place_of.ensures.found ∙ sym c.if-is_some.ensures) (omega (arith, c.if-held-self.true)));
      grown = record {
        same = refl;
        places = refl;
        more = omega arith;
        kept = take-set t.facts.now t.held c.args.fact;
        rest = drop-set-lt _ t.facts.now t.held c.args.fact (omega arith);
        opening = refl;
        fits = refl;
      };
    }

pub returns-else-held-self : goal.returns-else-held-self
returns-else-held-self c =
    let t = c.args.self.now in
    let long = length-take-le t.held t.facts.now (rows_fit t) in
    record {
      state = sym (offer_past t.places (state_of t) c.args.fact c.if-self.false (sym c.place_of.ensures.found ∙ sym c.if-is_some.ensures) (omega (arith, c.if-held-self.false)));
      grown = record { same = refl; places = refl; more = omega arith; kept = refl; rest = refl; opening = refl; fits = refl };
    }
