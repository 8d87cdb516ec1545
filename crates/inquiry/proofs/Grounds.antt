-- What links and digs are answered: a link by its grounds, a dig by what it has finished.
use Rattle.std.proofs.Common.{◌≡◌, ℕ, ◌+◌, ◌-◌, ◌<◌, ◌≤◌, Bool, true, false, not, ltb, ◌⊎◌, List, length, Ok, Err, Result, refl, ap, inl, inr, arith}
use Rattle.std.proofs.lemmas.Bool.{both_ways, cases_Bool, cases_lt, and_from, not_from_false, false_from_ne_true, lt-ltb}
use Rattle.std.proofs.lemmas.Bool.Decides.{not_from_Decides}
use Rattle.model.specs.declared.Edge.{Edge}
use Rattle.model.specs.Facts.{Setting}
use Rattle.model.specs.Links.{is_listed}
use Rattle.model.specs.Program.{Program, EdgeRules, Leads, is_edge, counted}
use Rattle.model.specs.Tables.{Search, dug, pending}
use Rattle.model.proofs.Edges.{edge_passes, edge_rules}
use Rattle.model.proofs.Listed.{listed_decides}
use Rattle.model.proofs.Verdicts.{search_laws}
use Rattle.recipe.specs.declared.grounds.Refusal.{Refusal}
use Rattle.recipe.specs.declared.grounds.Refusal.TheVariants.{NotAnEdge, EdgeHeld, EdgesFull, InquiryFull}
use Rattle.inquiry.specs.Calls.{answered, link_allowed, dug_from}
use Rattle.inquiry.specs.Grounds.{LinkAnswer, DigAnswer, AnswerLaws}
use Rattle.inquiry.specs.declared.requests.Reply.{Reply}
use Rattle.inquiry.specs.declared.requests.Reply.TheVariants.{Linked}
use Rattle.inquiry.proofs.Allowing.{link_cases, link_passes, link_grounds}

-- what a link is answered
link_answer : (p : Program) (used : List Edge) (places : ℕ) (full : Bool) (from to : ℕ) → LinkAnswer p (counted p used) (length used) places full from to (answered (link_allowed p used places full (record { from = from; to = to })) (Linked (length used + 1)))
link_answer p used places full from to = record {
  accepts = λ rules new room free. ap (λ o. answered o (Linked (length used + 1))) (link_passes p used places full e (edge_passes p e rules) (unlisted new) room free);
  accepted = λ reply.
      link_cases p used places full e
      (λ o. answered o (Linked (length used + 1)) ≡ Ok reply → EdgeRules p e × (Leads (counted p used) from to → ⊥) × (length used < places) × (full ≡ false) × (reply ≡ Linked (length used + 1)))
      (λ right new room free is. (edge_rules p e right, not_from_Decides (is_listed (counted p used) e) (listed_decides (counted p used) from to) new, room, free, (cc)))
      (λ why is. absurd (let z : ◌≡◌ {A = ℕ} 0 1 = cc in omega arith));
  no_edge = λ is rules. both_ways (is_edge p e) (grounds.0 is) (edge_passes p e rules);
  held = λ is. (listed_decides (counted p used) from to).0 (grounds.1 is);
  no_place = grounds.2;
  full_up = grounds.3;
}
  where
    e : Edge
    e = record { from = from; to = to }

    a : Result Reply Refusal
    a = answered (link_allowed p used places full e) (Linked (length used + 1))

    unlisted : (Leads (counted p used) from to → ⊥) → is_listed (counted p used) e ≡ false
    unlisted new = false_from_ne_true (is_listed (counted p used) e) (λ listed. new ((listed_decides (counted p used) from to).0 listed))

    grounds : (a ≡ Err NotAnEdge → is_edge p e ≡ false) × (a ≡ Err EdgeHeld → is_listed (counted p used) e ≡ true) × (a ≡ Err EdgesFull → places ≤ length used) × (a ≡ Err InquiryFull → full ≡ true)
    grounds = link_grounds p used places full e (Linked (length used + 1))

-- what a dig is answered
dig_answer : (X : Setting) (places k : ℕ) (s : Search) → DigAnswer k s (dug X places k s) (dug_from s (dug X places k s))
dig_answer X places k s = record {
  held = refl;
  adds = let more = search_laws.keeps X places k s in omega arith;
  few = let most = search_laws.allows X places k s in omega arith;
  all = λ less. by (cases_Bool t.full) (cases_lt t.worked (length t.rows)) (idle less);
}
  where
    t : Search
    t = dug X places k s

    idle : t.worked - s.worked < k → pending t ≡ false
    idle less = false_from_ne_true (pending t) (λ left. absurd (let whole = search_laws.finishes X places k s left in omega arith))

    by : (t.full ≡ true) ⊎ (t.full ≡ false) → (t.worked < length t.rows) ⊎ (length t.rows ≤ t.worked) → pending t ≡ false → (t.full ≡ true) ⊎ (length t.rows ≤ t.worked)
    by (inl full) other rests = inl full
    by (inr free) (inl more) rests = absurd (both_ways (pending t) rests (and_from (not t.full) (ltb t.worked (length t.rows)) (not_from_false t.full free) (lt-ltb t.worked (length t.rows) more)))
    by (inr free) (inr through) rests = inr through

pub answer_laws : AnswerLaws
answer_laws = record { links = link_answer; digs = dig_answer }
