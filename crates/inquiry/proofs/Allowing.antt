-- When a link and a trace are allowed, and where they lead: the cases of their answers, each with what led to it.
use Rattle.std.proofs.Common.{◌≡◌, ℕ, ◌<◌, ◌≤◌, Bool, true, false, cond, ◌&&◌, ltb, leb, ◌⊎◌, List, length, Ok, Err, ◌∙◌, inl, inr, arith}
use Rattle.std.proofs.lemmas.Bool.{cond-true, cond-false, cond_both, lt-ltb, ltb-true, ltb-false, leb-true, and_parts, and_from, both_ways, le-leb, cases_lt}
use Rattle.model.specs.declared.Edge.{Edge}
use Rattle.model.specs.Links.{is_listed, linked}
use Rattle.model.specs.Program.{Program, is_edge, counted}
use Rattle.model.specs.Searches.{first_trace, unworked}
use Rattle.model.specs.Tables.{capped, Search, any_bad}
use Rattle.model.specs.Watches.{Watch}
use Rattle.recipe.specs.declared.grounds.Refusal.{Refusal}
use Rattle.recipe.specs.declared.grounds.Refusal.TheVariants.{NotAnEdge, EdgeHeld, EdgesFull, InquiryFull, NotUnsafe, LongTrace}
use Rattle.inquiry.specs.Calls.{Allowed, answered, link_allowed, trace_length, trace_allowed}
use Rattle.inquiry.specs.Histories.{Opened, Standing}

-- the standing with an accepted link
abbrev pub linked_at : Opened → Standing → Edge → Standing
linked_at C s e = record { edges = linked C.program s.edges e; search = unworked s.search }

module _ (p : Program) (used : List Edge) (places : ℕ) (full : Bool) (e : Edge) where
  -- a link is refused, or it is an edge by the rules, none that counts, a place is free, and the search is not full
  pub link_cases : (P : Allowed → Type 0) → (is_edge p e ≡ true → is_listed (counted p used) e ≡ false → length used < places → full ≡ false → P (Ok tt)) → ((why : Refusal) → P (Err why)) → P (link_allowed p used places full e)
  link_cases P passed refused =
      cond_both (is_edge p e) _ (Err NotAnEdge) P
      (λ right. cond_both (is_listed (counted p used) e) (Err EdgeHeld) _ P (λ old. refused EdgeHeld)
      (λ new. cond_both (ltb (length used) places) _ (Err EdgesFull) P
      (λ room. cond_both full (Err InquiryFull) (Ok tt) P (λ past. refused InquiryFull) (λ free. passed right new (ltb-true (length used) places room) free)) (λ none. refused EdgesFull)))
      (λ wrong. refused NotAnEdge)

  -- where all that holds it is allowed
  pub link_passes : is_edge p e ≡ true → is_listed (counted p used) e ≡ false → length used < places → full ≡ false → link_allowed p used places full e ≡ Ok tt
  link_passes right new room free =
      cond-true (is_edge p e) (cond (is_listed (counted p used) e) (Err EdgeHeld) (cond (ltb (length used) places) (cond full (Err InquiryFull) (Ok tt)) (Err EdgesFull))) (Err NotAnEdge) right
      ∙ cond-false (is_listed (counted p used) e) (Err EdgeHeld) (cond (ltb (length used) places) (cond full (Err InquiryFull) (Ok tt)) (Err EdgesFull)) new
      ∙ cond-true (ltb (length used) places) (cond full (Err InquiryFull) (Ok tt)) (Err EdgesFull) (lt-ltb (length used) places room)
      ∙ cond-false full (Err InquiryFull) (Ok tt) free

  -- each refusal has its ground
  pub link_grounds : {A : Type 0} (a : A) → (answered (link_allowed p used places full e) a ≡ Err NotAnEdge → is_edge p e ≡ false) × (answered (link_allowed p used places full e) a ≡ Err EdgeHeld → is_listed (counted p used) e ≡ true)
      × (answered (link_allowed p used places full e) a ≡ Err EdgesFull → places ≤ length used) × (answered (link_allowed p used places full e) a ≡ Err InquiryFull → full ≡ true)
  link_grounds a =
      cond_both (is_edge p e) _ (Err NotAnEdge) P
      (λ right. cond_both (is_listed (counted p used) e) (Err EdgeHeld) _ P (λ old. ((λ h. cc), (λ _. old), (λ h. absurd (let z : ◌≡◌ {A = ℕ} 0 1 = cc in omega arith)), (λ h. cc)))
      (λ new. cond_both (ltb (length used) places) _ (Err EdgesFull) P
      (λ room. cond_both full (Err InquiryFull) (Ok tt) P (λ past. ((λ h. cc), (λ h. cc), (λ h. absurd (let z : ◌≡◌ {A = ℕ} 0 1 = cc in omega arith)), (λ _. past))) (λ free. ((λ h. cc), (λ h. cc), (λ h. absurd (let z : ◌≡◌ {A = ℕ} 0 1 = cc in omega arith)), (λ h. cc))))
      (λ none. ((λ h. cc), (λ h. cc), (λ _. ltb-false (length used) places none), (λ h. cc)))))
      (λ wrong. ((λ _. wrong), (λ h. cc), (λ h. absurd (let z : ◌≡◌ {A = ℕ} 0 1 = cc in omega arith)), (λ h. cc)))
    where
      P : Allowed → Type 0
      P o = (answered o a ≡ Err NotAnEdge → is_edge p e ≡ false) × (answered o a ≡ Err EdgeHeld → is_listed (counted p used) e ≡ true) × (answered o a ≡ Err EdgesFull → places ≤ length used) × (answered o a ≡ Err InquiryFull → full ≡ true)

  -- and none is that of a trace
  pub link_not_long : {A : Type 0} (a : A) (n : ℕ) → answered (link_allowed p used places full e) a ≡ Err (LongTrace n) → ⊥
  link_not_long a n =
      cond_both (is_edge p e) _ (Err NotAnEdge) (λ o. answered o a ≡ Err (LongTrace n) → ⊥)
      (λ right. cond_both (is_listed (counted p used) e) (Err EdgeHeld) _ (λ o. answered o a ≡ Err (LongTrace n) → ⊥) (λ old. (λ h. absurd (let z : ◌≡◌ {A = ℕ} 0 1 = cc in omega arith)))
      (λ new. cond_both (ltb (length used) places) _ (Err EdgesFull) (λ o. answered o a ≡ Err (LongTrace n) → ⊥)
      (λ room. cond_both full (Err InquiryFull) (Ok tt) (λ o. answered o a ≡ Err (LongTrace n) → ⊥) (λ past. (λ h. absurd (let z : ◌≡◌ {A = ℕ} 0 1 = cc in omega arith))) (λ free. (λ h. absurd (let z : ◌≡◌ {A = ℕ} 0 1 = cc in omega arith)))) (λ none. (λ h. absurd (let z : ◌≡◌ {A = ℕ} 0 1 = cc in omega arith)))))
      (λ wrong. (λ h. absurd (let z : ◌≡◌ {A = ℕ} 0 1 = cc in omega arith)))

module _ (W : Watch) (s : Search) (room : ℕ) where
  -- the trace that is asked for
  abbrev trace_of : List ℕ
  trace_of = first_trace W s.rows

  -- a trace is refused for want of a bad fact, or for its length, or a fact is bad and it fits, and then its length is what is told
  pub trace_cases : (P : Allowed → Type 0) → (any_bad W s.rows ≡ true → length trace_of ≤ room → length trace_of < 4294967295 → trace_length W s ≡ length trace_of → P (Ok tt))
      → (any_bad W s.rows ≡ true → (room < length trace_of) ⊎ (4294967295 ≤ length trace_of) → P (Err (LongTrace (capped (length trace_of))))) → (any_bad W s.rows ≡ false → P (Err NotUnsafe)) → P (trace_allowed W s room)
  trace_cases P fits long none =
      cond_both (any_bad W s.rows) _ (Err NotUnsafe) P
      (λ bad. cond_both (leb (trace_length W s) room && ltb (trace_length W s) 4294967295) (Ok tt) (Err (LongTrace (trace_length W s))) P
      (λ both. let a = and_parts (leb (trace_length W s) room) (ltb (trace_length W s) 4294967295) both in
      let low = leb-true (trace_length W s) room a.0 in
      let below = ltb-true (trace_length W s) 4294967295 a.1 in
      fits bad (omega arith) (omega arith) (omega arith))
      (λ over. long bad (past over)))
      none
    where
      -- what does not fit is longer than the room, or than what is told
      past : (leb (trace_length W s) room && ltb (trace_length W s) 4294967295) ≡ false → (room < length trace_of) ⊎ (4294967295 ≤ length trace_of)
      past over = by (cases_lt room (length trace_of)) (cases_lt (length trace_of) 4294967295)
        where
          by : (room < length trace_of) ⊎ (length trace_of ≤ room) → (length trace_of < 4294967295) ⊎ (4294967295 ≤ length trace_of) → (room < length trace_of) ⊎ (4294967295 ≤ length trace_of)
          by (inl more) other = inl more
          by (inr low) (inr far) = inr far
          by (inr low) (inl below) =
              absurd (both_ways (leb (trace_length W s) room && ltb (trace_length W s) 4294967295) over
              (and_from (leb (trace_length W s) room) (ltb (trace_length W s) 4294967295) (le-leb (trace_length W s) room (omega arith)) (lt-ltb (trace_length W s) 4294967295 (omega arith))))
