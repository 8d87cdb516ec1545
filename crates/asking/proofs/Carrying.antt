-- Requests are carried out one after another: what the inquiry, the tables and the record are after so many of them.
use Rattle.std.proofs.Common.{◌≡◌, ℕ, zero, suc, ◌+◌, ◌<◌, ◌≤◌, List, [], ◌∷◌, ◌++◌, map, length, get_or, take, drop, set, Ok, Err, Result, sym, refl, ap, ◌∙◌, subst, arith}
use Rattle.std.proofs.lemmas.List.{append_assoc, map-append, length-map, length-drop, length-take-le, take-append-drop, drop_more, take_at, drop_at, set_at, take_all}
use Rattle.model.specs.declared.Edge.{Edge}
use Rattle.model.specs.declared.Fact.{Fact}
use Rattle.model.specs.Access.{Rule}
use Rattle.model.specs.Program.{Program}
use Rattle.model.specs.Tables.{Search, empty, opened}
use Rattle.model.specs.Watches.{Watch}
use Rattle.recipe.specs.declared.grounds.Refusal.{Refusal}
use Rattle.recipe.specs.declared.grounds.Refusal.TheVariants.{TooMany}
use Rattle.rules.specs.declared.subject.Subject.{Subject}
use Rattle.inquiry.specs.declared.Counts.{Counts}
use Rattle.inquiry.specs.declared.Inquiry.{Inquiry}
use Rattle.inquiry.specs.declared.Opening.{Opening}
use Rattle.inquiry.specs.Calls.{Allowed, answered, unless, opening_of, report_of}
use Rattle.inquiry.specs.Inquiries.{state_of}
use Rattle.inquiry.specs.Reached.{Reached}
use Rattle.inquiry.proofs.Answering.{held_is}
use Rattle.inquiry.proofs.Growing.{drop_later}
use Rattle.inquiry.specs.declared.requests.Request.{Request}
use Rattle.inquiry.specs.declared.requests.Reply.{Reply}
use Rattle.asking.specs.Asked.{recorded, report_left, replies_left, facts_left, edges_left, output_left}
use Rattle.asking.specs.Made.{Carried, Void, Made}
use Rattle.inquiry.specs.Histories.{Opened, opened_on, fit_of, Standing, with_table, begun, step, output_by, output_from, output_after, after, replies, replies_from, after_from}
use Rattle.model.proofs.Nexts.{next_lt, next_taken}
use Rattle.inquiry.proofs.Going.{record_grows, output_more}

-- nothing is left of a front that is empty, or whose list is
pub front_none : {A : Type 0} (n : ℕ) (xs : List A) → (0 < n → length xs ≡ 0) → take n xs ≡ []
front_none zero xs none = refl
front_none (suc n) [] none = refl
front_none (suc n) (x ∷ xs) none = absurd (let e = none (omega arith) in omega arith)

-- a record has an answer for each request
pub replies_length : (C : Opened) (s : Standing) (rs : List Request) → length (replies_from C s rs) ≡ length rs
unfolding replies_from
replies_length C s [] = refl
replies_length C s (r ∷ rs) = ap suc (replies_length C (step C s r) rs)

recorded_length : (o : Allowed) (C : Opened) (rs : List Request) → length (recorded o C rs) ≡ length rs
recorded_length (Ok u) C rs = replies_length C (begun C) rs
recorded_length (Err e) C rs = length-map rs (λ r. Err e)

module _ {R W : Type 0} (meaning : R → Program → Rule) (watching : W → Watch) (on : Subject R W) (places edge_places : ℕ) (blank : List ℕ) (first : Inquiry) (lent : List Edge) (made : List Request) (old : List (Result Reply Refusal)) where
  abbrev C : Opened
  C = opened_on meaning watching on places edge_places

  -- so many requests are made: the inquiry and the output are where they lead, or it is void and everything is as it was; the record has their answers
  pub record Going (k : ℕ) (i : Inquiry) (table : List Edge) (output : List ℕ) (log : List (Result Reply Refusal)) : Type 0 where
    pub some : k ≤ length made
    pub carried : fit_of C ≡ Ok tt → Carried C (take k made) first lent i table
    pub written : fit_of C ≡ Ok tt → output ≡ output_after C (take k made) blank
    pub void : (e : Refusal) → fit_of C ≡ Err e → Void e first lent blank i table output
    pub log_is : log ≡ recorded (fit_of C) C (take k made) ++ drop k old

  -- one more
  module _ (k : ℕ) (i : Inquiry) (table : List Edge) (output : List ℕ) (log : List (Result Reply Refusal)) (h : Going k i table output log) (r : Request) (rest : List Request) (next : drop k made ≡ r ∷ rest) (room : length made ≤ length old) where
    lt : k < length made
    lt = next_lt made k r rest next

    made_next : take (k + 1) made ≡ take k made ++ r ∷ []
    made_next = next_taken made k r rest next

    -- the record with a reply more
    log_next : (o : Allowed) (reply : Result Reply Refusal) → recorded o C (take (k + 1) made) ≡ recorded o C (take k made) ++ reply ∷ [] → log ≡ recorded o C (take k made) ++ drop k old → set log k reply ≡ recorded o C (take (k + 1) made) ++ drop (k + 1) old
    log_next o reply grows is =
        let long = recorded_length o C (take k made) ∙ length-take-le k made (let l = lt in omega arith) in
        let before = lt in
        ap (λ xs. set xs k reply) (is ∙ ap (λ ys. recorded o C (take k made) ++ ys) (drop_more old k (Err TooMany) (omega arith)))
        ∙ set_at (recorded o C (take k made)) (get_or old k (Err TooMany)) (drop (k + 1) old) reply k long
        ∙ sym (append_assoc (recorded o C (take k made)) (reply ∷ []) (drop (k + 1) old)) ∙ ap (λ xs. xs ++ drop (k + 1) old) (sym grows)

    pub going_on : {later : Inquiry} {table_later : List Edge} {output_later : List ℕ} {reply : Result Reply Refusal} → Made meaning watching on r i table output later table_later output_later reply → Going (k + 1) later table_later output_later (set log k reply)
    unfolding output_from
    going_on {later} {table_later} {output_later} {reply} m = record {
      some = let l = lt in omega arith;
      carried = λ ok. subst (λ rs. Carried C rs first lent later table_later) (sym made_next) (m.carried places edge_places (take k made) first lent (h.carried ok)).2;
      written = λ ok.
          (m.carried places edge_places (take k made) first lent (h.carried ok)).1 ∙ ap (output_by C (after C (take k made)) r) (h.written ok) ∙ sym (output_more C (begun C) (take k made) (r ∷ []) blank) ∙ ap (λ rs. output_after C rs blank) (sym made_next);
      void = λ e refused. (m.void e first lent blank (h.void e refused)).1;
      log_is = by (fit_of C) refl;
    }
      where
        by : (o : Allowed) → fit_of C ≡ o → set log k reply ≡ recorded (fit_of C) C (take (k + 1) made) ++ drop (k + 1) old
        by (Ok u) ok =
            let was = h.log_is ∙ ap (λ o. recorded o C (take k made) ++ drop k old) ok in
            let reply_is = (m.carried places edge_places (take k made) first lent (h.carried ok)).0 in
            let grows : replies C (take (k + 1) made) ≡ replies C (take k made) ++ reply ∷ [] = ap (replies C) made_next ∙ record_grows C (take k made) r ∙ ap (λ a. replies C (take k made) ++ a ∷ []) (sym reply_is) in
            log_next (Ok tt) reply grows was ∙ ap (λ o. recorded o C (take (k + 1) made) ++ drop (k + 1) old) (sym ok)
        by (Err e) refused =
            let was = h.log_is ∙ ap (λ o. recorded o C (take k made) ++ drop k old) refused in
            let reply_is = (m.void e first lent blank (h.void e refused)).0 in
            let grows : recorded (Err e) C (take (k + 1) made) ≡ recorded (Err e) C (take k made) ++ reply ∷ [] = ap (map (λ q. Err e)) made_next ∙ map-append _ (take k made) (r ∷ []) ∙ ap (λ a. map (λ q. Err e) (take k made) ++ a ∷ []) (sym reply_is) in
            log_next (Err e) reply grows was ∙ ap (λ o. recorded o C (take (k + 1) made) ++ drop (k + 1) old) (sym refused)

  -- none yet, at the opening
  pub going_start : first.fits ≡ fit_of C → first.opening ≡ opening_of (fit_of C) (with_table C C.own) (length C.own) edge_places → (fit_of C ≡ Ok tt → Reached C [] first lent) → Going 0 first lent blank old
  unfolding output_from replies_from
  going_start refusal opening reached = record {
    some = omega arith;
    carried = λ ok.
        let uses : first.opening.used ≡ length C.own = ap (λ (o : Opening). o.used) (opening ∙ ap (λ o. opening_of o (with_table C C.own) (length C.own) edge_places) ok) in
        record { reached = reached ok; same = refl; more = omega arith; more_used = omega arith; facts_rest = refl; edges_rest = refl };
    written = λ ok. refl;
    void = λ e refused. record { fits = refusal ∙ refused; facts = refl; same = refl; edges = refl; written = refl };
    log_is = by (fit_of C);
  }
    where
      by : (o : Allowed) → old ≡ recorded o C (take 0 made) ++ drop 0 old
      by (Ok u) = refl
      by (Err e) = refl

  -- all of them
  module _ (k : ℕ) (i : Inquiry) (table : List Edge) (output : List ℕ) (log : List (Result Reply Refusal)) (h : Going k i table output log) (none : drop k made ≡ []) where
    all : take k made ≡ made
    all = let n = sym (length-drop k made) ∙ ap length none in take_all k made (omega arith)

    abbrev end : Standing
    end = after C made

    carried_end : fit_of C ≡ Ok tt → Carried C made first lent i table
    carried_end ok = subst (λ rs. Carried C rs first lent i table) all (h.carried ok)

    -- by whether the tables fit
    by_fit : (P : Allowed → Type 0) → (fit_of C ≡ Ok tt → P (Ok tt)) → ((e : Refusal) → fit_of C ≡ Err e → P (Err e)) → P (fit_of C)
    by_fit P ok refused = by (fit_of C) refl
      where
        by : (o : Allowed) → fit_of C ≡ o → P o
        by (Ok u) is = ok is
        by (Err e) is = refused e is

    pub end_log : log ≡ replies_left C made old
    end_log = let n = sym (length-drop k made) ∙ ap length none in let few = h.some in let whole : k ≡ length made = omega arith in h.log_is ∙ (λ j. recorded (fit_of C) C (all j) ++ drop (whole j) old)

    pub end_answer : (W : Watch) → answered i.fits (report_of W (state_of i)) ≡ answered (fit_of C) (report_of W end.search)
    end_answer W =
        by_fit (λ o. answered i.fits (report_of W (state_of i)) ≡ answered o (report_of W end.search))
        (λ ok. let s = (carried_end ok).reached in λ j. answered (s.fits j) (report_of W (s.search j)))
        (λ e refused. let v = h.void e refused in ap (λ o. answered o (report_of W (state_of i))) v.fits)

    -- the table of facts is still the one that was lent
    pub end_same : i.facts.ghost_name ≡ first.facts.ghost_name
    end_same = by_fit (λ o. i.facts.ghost_name ≡ first.facts.ghost_name) (λ ok. (carried_end ok).same) (λ e refused. (h.void e refused).same)

    pub end_output : output ≡ output_left C made blank
    end_output = by_fit (λ o. output ≡ unless o (output_after C made blank) blank) (λ ok. h.written ok ∙ ap (λ rs. output_after C rs blank) all) (λ e refused. (h.void e refused).written)

    pub end_edges : (before : List Edge) → lent ≡ unless (fit_of C) (C.own ++ drop (length C.own) before) before → table ≡ edges_left C made before
    end_edges before edges =
        by_fit (λ o. table ≡ unless o (end.edges ++ drop (length end.edges) before) before)
        (λ ok.
        let s = carried_end ok in
        let copied = edges ∙ ap (λ o. unless o (C.own ++ drop (length C.own) before) before) ok in
        let rest = ap (drop (length C.own)) copied ∙ drop_at C.own (drop (length C.own) before) (length C.own) refl in
        let inside = i.used in
        let places_is : i.opening.counts.places ≡ length table = ap (λ (c : Counts). c.places) s.reached.counts ∙ sym s.reached.long in
        let within : i.opening.used ≤ length table = omega arith in
        let long : length end.edges ≡ i.opening.used = ap length (sym s.reached.used) ∙ length-take-le i.opening.used table within in
        sym (take-append-drop i.opening.used table) ∙ (λ j. s.reached.used j ++ (s.edges_rest ∙ drop_later (length C.own) i.opening.used lent before s.more_used rest) j) ∙ ap (λ n. end.edges ++ drop n before) (sym long))
        (λ e refused. (h.void e refused).edges ∙ edges ∙ ap (λ o. unless o (C.own ++ drop (length C.own) before) before) refused)

    pub end_facts : (facts : List Fact) → state_of first ≡ unless (fit_of C) (opened (with_table C C.own) places) empty → drop first.held first.facts.now ≡ drop first.held facts → i.facts.now ≡ facts_left C made facts
    end_facts facts state rest =
        by_fit (λ o. i.facts.now ≡ unless o (end.search.rows ++ drop (length end.search.rows) facts) facts)
        (λ ok.
        let s = carried_end ok in
        let long : i.held ≡ length end.search.rows = held_is i ∙ ap (λ (t : Search). length t.rows) s.reached.search in
        sym (take-append-drop i.held i.facts.now) ∙ (λ j. ap (λ (t : Search). t.rows) s.reached.search j ++ (s.facts_rest ∙ drop_later first.held i.held first.facts.now facts s.more rest) j) ∙ ap (λ n. end.search.rows ++ drop n facts) long)
        (λ e refused.
        let nothing : first.held ≡ 0 = held_is first ∙ ap (λ (t : Search). length t.rows) (state ∙ ap (λ o. unless o (opened (with_table C C.own) places) empty) refused) in
        (h.void e refused).facts ∙ ap (λ n. drop n first.facts.now) (sym nothing) ∙ rest ∙ ap (λ n. drop n facts) nothing)
