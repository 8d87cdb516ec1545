-- One request is made of an inquiry: it is answered as it should be, and leaves the inquiry and the output as it should.
use Rattle.std.proofs.Common.{◌≡◌, ℕ, ◌+◌, ◌≤◌, cond, List, [], ◌∷◌, ◌++◌, length, take, drop, Ok, Err, Result, sym, refl, ap, ◌∙◌, subst, arith, append_assoc}
use Rattle.std.proofs.lemmas.List.{drop_at, take-append-drop, drop-append-le, length-take-le}
use Rattle.model.specs.declared.Edge.{Edge}
use Rattle.model.specs.declared.Verdict.{Verdict as Outcome}
use Rattle.model.specs.Access.{Rule}
use Rattle.model.specs.Facts.{Setting}
use Rattle.model.specs.Links.{linked}
use Rattle.model.specs.Program.{Program}
use Rattle.model.specs.Searches.{unworked, first_trace}
use Rattle.model.specs.Tables.{Search, dug, verdict_of}
use Rattle.model.specs.Watches.{Watch}
use Rattle.model.proofs.Links.{link_laws}
use Rattle.recipe.specs.declared.grounds.Refusal.{Refusal}
use Rattle.recipe.specs.declared.grounds.Refusal.TheVariants.{TooMany, OtherCounts}
use Rattle.rules.specs.declared.subject.Subject.{Subject}
use Rattle.rules.specs.Subjects.{setting_of}
use Rattle.inquiry.specs.declared.Counts.{Counts}
use Rattle.inquiry.specs.declared.Inquiry.{Inquiry}
use Rattle.inquiry.specs.declared.Opening.{Opening}
use Rattle.inquiry.specs.declared.reports.Dug.{Dug}
use Rattle.inquiry.specs.declared.requests.Request.TheVariants.{Dig, Link, Verdict, Trace}
use Rattle.inquiry.specs.declared.requests.Reply.{Reply}
use Rattle.inquiry.specs.declared.requests.Reply.TheVariants.{Dug as Dig_done, Linked, Judged, Traced}
use Rattle.inquiry.specs.Calls.{Allowed, answered, unless, in_use, counts_fit, counts_of, same_counts, void_or, dig_answer, dug_from, link_allowed, link_answer, trace_length, trace_allowed, trace_answer, trace_output}
use Rattle.inquiry.specs.Histories.{Opened, opened_on, Standing, output_by, after, asked}
use Rattle.inquiry.specs.Inquiries.{state_of, Grown, Kept}
use Rattle.inquiry.specs.Reached.{Reached, replied, IsNext, IsNextTrace}
use Rattle.asking.specs.Made.{Carried, Made}
use Rattle.inquiry.proofs.Allowed.{by_allowed}
use Rattle.inquiry.proofs.Allowing.{trace_cases}
use Rattle.inquiry.proofs.Answering.{held_is}
use Rattle.inquiry.proofs.Growing.{drop_later}

-- an inquiry with the same rows holds as many facts
held_same : (i j : Inquiry) → (state_of j).rows ≡ (state_of i).rows → j.held ≡ i.held
held_same i j e = held_is j ∙ ap length e ∙ sym (held_is i)

-- a request that changes neither the inquiry nor the table leaves what was carried out before, with it
carried_on : {C : Opened} {rs ss : List _} {first i : Inquiry} {lent table : List Edge} → Carried C rs first lent i table → Reached C ss i table → Carried C ss first lent i table
carried_on h reached = record { reached = reached; same = h.same; more = h.more; more_used = h.more_used; facts_rest = h.facts_rest; edges_rest = h.edges_rest }

module _ {R W : Type 0} (meaning : R → Program → Rule) (watching : W → Watch) (on : Subject R W) (i : Inquiry) (table : List Edge) where
  -- what the inquiry is about, with the edges in use
  abbrev X : Setting
  X = setting_of meaning watching on (in_use i table)

  -- a void inquiry refuses a dig and a link
  module _ (e : Refusal) (void : i.fits ≡ Err e) where
    void_dig : dig_answer i X (length table) ≡ Err e
    void_dig = ap (λ o. void_or o (cond (counts_fit X.rule.values X.watch.states) (cond (same_counts (counts_of X (length table)) i.opening.counts) (Ok tt) (Err OtherCounts)) (Err TooMany))) void

    void_link : (d : Edge) → link_answer i X table i.full d ≡ Err e
    void_link d = ap (λ o. void_or o (link_allowed X.program (in_use i table) (length table) i.full d)) void_dig

  -- a dig that was made
  pub dig_made : (allowed : ℕ) (j : Inquiry) (output : List ℕ) (r : Result Dug Refusal) (reply : Result Reply Refusal)
      → r ≡ answered (dig_answer i X (length table)) (dug_from (state_of i) (dug X i.places allowed (state_of i)))
      → state_of j ≡ unless (dig_answer i X (length table)) (dug X i.places allowed (state_of i)) (state_of i) → Grown i j
      → ((places edge_places : ℕ) → IsNext (opened_on meaning watching on places edge_places) (Dig allowed) Dig_done i table j table r) → reply ≡ replied Dig_done r → Made meaning watching on (Dig allowed) i table output j table output reply
  dig_made allowed j output r reply answers state grown next put = record {
    carried = λ places edge_places rs first lent h.
        let more = grown.more in
        let uses = ap (λ (o : Opening). o.used) grown.opening in (
          put ∙ (next places edge_places).answers rs h.reached,
          refl,
          record {
            reached = (next places edge_places).reaches rs h.reached;
            same = grown.same ∙ h.same;
            more = let before = h.more in omega arith;
            more_used = let before = h.more_used in omega arith;
            facts_rest = grown.rest ∙ drop_later i.held j.held i.facts.now first.facts.now more h.facts_rest;
            edges_rest = ap (λ n. drop n table) uses ∙ h.edges_rest ∙ ap (λ n. drop n lent) (sym uses);
          },
        );
    void = λ e first lent blank h.
        let refused = void_dig e h.fits in
        let kept : state_of j ≡ state_of i = state ∙ ap (λ o. unless o (dug X i.places allowed (state_of i)) (state_of i)) refused in
        let held = held_same i j (ap (λ (s : Search). s.rows) kept) in
        let behind : drop i.held j.facts.now ≡ drop i.held i.facts.now = ap (λ n. drop n j.facts.now) (sym held) ∙ grown.rest ∙ ap (λ n. drop n i.facts.now) held in (
          put ∙ ap (replied Dig_done) (answers ∙ ap (λ o. answered o (dug_from (state_of i) (dug X i.places allowed (state_of i)))) refused),
          record {
            fits = grown.fits ∙ h.fits;
            facts = sym (take-append-drop i.held j.facts.now) ∙ (λ k. grown.kept k ++ behind k) ∙ take-append-drop i.held i.facts.now ∙ h.facts;
            same = grown.same ∙ h.same;
            edges = h.edges;
            written = h.written;
          },
        );
  }

  -- a link that was made
  module _ (from to : ℕ) (j : Inquiry) (later : List Edge) (output : List ℕ) (r : Result ℕ Refusal) (reply : Result Reply Refusal) where
    abbrev edge : Edge
    edge = record { from = from; to = to }

    abbrev asked_link : Allowed
    asked_link = link_answer i X table i.full edge

    abbrev now_used : ℕ
    now_used = i.opening.used + 1

    abbrev more_edges : List Edge
    more_edges = linked X.program (in_use i table) edge

    -- behind the edges in use the table is as it was, whether the link was accepted or not
    rest_stays : (lent : List Edge) → i.opening.used ≤ length table → drop i.opening.used table ≡ drop i.opening.used lent → later ≡ unless asked_link (more_edges ++ drop now_used table) table
        → j.opening ≡ unless asked_link (record { counts = i.opening.counts; used = now_used }) i.opening → (i.opening.used ≤ j.opening.used) × (drop j.opening.used later ≡ drop j.opening.used lent)
    rest_stays lent within rest =
        by_allowed (λ o. later ≡ unless o (more_edges ++ drop now_used table) table → j.opening ≡ unless o (record { counts = i.opening.counts; used = now_used }) i.opening → (i.opening.used ≤ j.opening.used) × (drop j.opening.used later ≡ drop j.opening.used lent)) asked_link
        (λ becomes opening.
        let uses : j.opening.used ≡ now_used = ap (λ (o : Opening). o.used) opening in
        let size : length more_edges ≡ now_used = link_laws.longer X.program (in_use i table) edge ∙ ap (λ n. n + 1) (length-take-le i.opening.used table within) in
        (omega arith, (λ k. drop (uses k) (becomes k)) ∙ drop_at more_edges (drop now_used table) now_used size ∙ drop_later i.opening.used now_used table lent (omega arith) rest ∙ ap (λ n. drop n lent) (sym uses)))
        (λ why becomes opening.
        let uses : j.opening.used ≡ i.opening.used = ap (λ (o : Opening). o.used) opening in
        (omega arith, (λ k. drop (uses k) (becomes k)) ∙ rest ∙ ap (λ n. drop n lent) (sym uses)))

    -- the facts are as they were
    rows_stay : state_of j ≡ unless asked_link (unworked (state_of i)) (state_of i) → (state_of j).rows ≡ (state_of i).rows
    rows_stay state = by_allowed (λ o. state_of j ≡ unless o (unworked (state_of i)) (state_of i) → (state_of j).rows ≡ (state_of i).rows) asked_link (ap (λ (s : Search). s.rows)) (λ why. ap (λ (s : Search). s.rows)) state

    pub link_made : r ≡ answered asked_link now_used → state_of j ≡ unless asked_link (unworked (state_of i)) (state_of i) → later ≡ unless asked_link (more_edges ++ drop now_used table) table
        → j.opening ≡ unless asked_link (record { counts = i.opening.counts; used = now_used }) i.opening → Kept i j
        → ((places edge_places : ℕ) → IsNext (opened_on meaning watching on places edge_places) (Link from to) (λ n. Linked n) i table j later r) → reply ≡ replied (λ n. Linked n) r → Made meaning watching on (Link from to) i table output j later output reply
    link_made answers state edges used kept next put = record {
      carried = λ places edge_places rs first lent h.
          let all : i.opening.counts.places ≡ length table = ap (λ (c : Counts). c.places) h.reached.counts ∙ sym h.reached.long in
          let fits_in = i.used in
          let rest = rest_stays lent (omega arith) h.edges_rest edges used in
          let held = held_same i j (rows_stay state) in
          let longer = rest.0 in (
            put ∙ (next places edge_places).answers rs h.reached,
            refl,
            record {
              reached = (next places edge_places).reaches rs h.reached;
              same = kept.same ∙ h.same;
              more = let before = h.more in omega arith;
              more_used = let before = h.more_used in omega arith;
              facts_rest = (λ k. drop (held k) (kept.table k)) ∙ h.facts_rest ∙ ap (λ n. drop n first.facts.now) (sym held);
              edges_rest = rest.1;
            },
          );
      void = λ e first lent blank h.
          let refused = void_link e h.fits edge in (
            put ∙ ap (replied (λ n. Linked n)) (answers ∙ ap (λ o. answered o now_used) refused),
            record {
              fits = kept.fits ∙ h.fits;
              facts = kept.table ∙ h.facts;
              same = kept.same ∙ h.same;
              edges = edges ∙ ap (λ o. unless o (more_edges ++ drop now_used table) table) refused ∙ h.edges;
              written = h.written;
            },
          );
    }

  -- a verdict that was asked for
  pub verdict_made : (output : List ℕ) (r : Result Outcome Refusal) (reply : Result Reply Refusal) → r ≡ answered i.fits (verdict_of (watching on.watch.now) (state_of i))
      → ((C : Opened) → C.watch ≡ watching on.watch.now → IsNext C Verdict Judged i table i table r) → reply ≡ replied Judged r → Made meaning watching on Verdict i table output i table output reply
  verdict_made output r reply answers next put = record {
    carried = λ places edge_places rs first lent h.
        let now = next (opened_on meaning watching on places edge_places) refl in
        (put ∙ now.answers rs h.reached, refl, carried_on h (now.reaches rs h.reached));
    void = λ e first lent blank h. (put ∙ ap (replied Judged) (answers ∙ ap (λ o. answered o (verdict_of (watching on.watch.now) (state_of i))) h.fits), h);
  }

-- where a trace goes to the first places of an output, the output holds what it would if it went to all of it
front_written : (C : Opened) (s : Standing) (room : ℕ) (out : List ℕ) → room ≤ length out → output_by C s (Trace room) (take room out) ++ drop room out ≡ output_by C s (Trace room) out
front_written C s room out le =
    trace_cases C.watch s.search room (λ o. unless o (trace_output C.watch s.search (take room out)) (take room out) ++ drop room out ≡ unless o (trace_output C.watch s.search out) out)
    (λ bad fits small told.
    let t = first_trace C.watch s.search.rows in
    append_assoc t (drop (length t) (take room out)) (drop room out) ∙ ap (λ ys. t ++ ys) (behind (length t) fits))
    (λ bad over. take-append-drop room out) (λ good. take-append-drop room out)
  where
    -- what stands behind a place of the front, and then the rest, is what stands behind it
    behind : (n : ℕ) → n ≤ room → drop n (take room out) ++ drop room out ≡ drop n out
    behind n few =
        let whole = take-append-drop room out in
        let long = length-take-le room out le in
        sym (drop-append-le n (take room out) (drop room out) (omega arith)) ∙ ap (drop n) whole

module _ {R W : Type 0} (meaning : R → Program → Rule) (watching : W → Watch) (on : Subject R W) (i : Inquiry) (table : List Edge) (output : List ℕ) (room : ℕ) (le : room ≤ length output) where
  -- the watch, and whether the trace is allowed
  abbrev V : Watch
  V = watching on.watch.now

  abbrev front : List ℕ
  front = take room output

  abbrev asked_trace : Allowed
  asked_trace = trace_answer i V (length front)

  -- a trace that was asked for, and went to the first places of the output
  pub trace_made : (front_later : List ℕ) (r : Result ℕ Refusal) (reply : Result Reply Refusal) → r ≡ answered asked_trace (trace_length V (state_of i)) → front_later ≡ unless asked_trace (trace_output V (state_of i) front) front
      → ((C : Opened) → C.watch ≡ V → IsNextTrace C (λ n. Traced n) i front front_later r) → reply ≡ replied (λ n. Traced n) r → Made meaning watching on (Trace room) i table output i table (front_later ++ drop room output) reply
  trace_made front_later r reply answers writes next put = record {
    carried = λ places edge_places rs first lent h.
        let C = opened_on meaning watching on places edge_places in
        let now = next C refl in
        let long = length-take-le room output le in (
          put ∙ (now.next table).answers rs h.reached ∙ ap (λ n. asked C rs (Trace n)) long,
          ap (λ ys. ys ++ drop room output) (now.writes rs table h.reached ∙ ap (λ n. output_by C (after C rs) (Trace n) front) long) ∙ front_written C (after C rs) room output le,
          carried_on h (subst (λ n. Reached C (rs ++ Trace n ∷ []) i table) long ((now.next table).reaches rs h.reached)),
        );
    void = λ e first lent blank h.
        let refused : asked_trace ≡ Err e = ap (λ o. void_or o (trace_allowed V (state_of i) (length front))) h.fits in (
          put ∙ ap (replied (λ n. Traced n)) (answers ∙ ap (λ o. answered o (trace_length V (state_of i))) refused),
          record {
            fits = h.fits;
            facts = h.facts;
            same = h.same;
            edges = h.edges;
            written = ap (λ ys. ys ++ drop room output) (writes ∙ ap (λ o. unless o (trace_output V (state_of i) front) front) refused) ∙ take-append-drop room output ∙ h.written;
          },
        );
  }
