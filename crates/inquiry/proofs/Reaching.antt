-- Calls made one by one are requests of a history: each is answered as the next one, and leads the inquiry on.
use Rattle.std.proofs.Common.{◌≡◌, ℕ, ◌+◌, Bool, true, false, cond, ◌&&◌, eqb, List, [], ◌++◌, length, take, drop, Ok, Err, Result, sym, refl, ap, ◌∙◌, subst, arith}
use Rattle.std.proofs.lemmas.Bool.{and_from, eq-eqb, cond-true}
use Rattle.std.proofs.lemmas.List.{take_at, length-append, length-drop, length-take-le}
use Rattle.model.specs.declared.Edge.{Edge}
use Rattle.model.specs.declared.Fact.{Fact}
use Rattle.model.specs.declared.Verdict.{Verdict as Outcome}
use Rattle.model.specs.Access.{Rule}
use Rattle.model.specs.Facts.{Setting}
use Rattle.model.specs.Links.{linked}
use Rattle.model.specs.Program.{Program}
use Rattle.model.specs.Searches.{unworked}
use Rattle.model.specs.Tables.{Search, empty, opened, dug, verdict_of}
use Rattle.model.specs.Watches.{Watch}
use Rattle.model.proofs.Links.{link_laws}
use Rattle.recipe.specs.declared.grounds.Refusal.{Refusal}
use Rattle.recipe.specs.declared.grounds.Refusal.TheVariants.{TooMany, OtherCounts, UnfitTable}
use Rattle.rules.specs.declared.subject.Subject.{Subject}
use Rattle.rules.specs.Subjects.{setting_of}
use Rattle.inquiry.specs.declared.Counts.{Counts}
use Rattle.inquiry.specs.declared.Inquiry.{Inquiry}
use Rattle.inquiry.specs.declared.Opening.{Opening}
use Rattle.inquiry.specs.declared.reports.Dug.{Dug}
use Rattle.inquiry.specs.declared.reports.Report.{Report}
use Rattle.inquiry.specs.declared.requests.Request.{Request}
use Rattle.inquiry.specs.declared.requests.Request.TheVariants.{Dig, Link, Verdict, Trace}
use Rattle.inquiry.specs.declared.requests.Reply.{Reply}
use Rattle.inquiry.specs.declared.requests.Reply.TheVariants.{Dug as Dig_done, Linked, Judged, Traced}
use Rattle.inquiry.specs.Calls.{Allowed, answered, unless, in_use, counts_fit, tables_fit, counts_of, same_counts, void_or, opening_of, dig_answer, dug_from, link_allowed, link_answer, trace_length, trace_allowed, trace_answer, trace_output, report_of}
use Rattle.inquiry.specs.Histories.{Opened, opened_on, fit_of, Standing, with_table, may_trace, dug_at, answer, step, after, after_from}
use Rattle.inquiry.specs.Inquiries.{state_of, Grown, Kept}
use Rattle.inquiry.specs.Reached.{Represents, Reached, replied, IsNext, IsNextTrace, IsEnd}
use Rattle.inquiry.proofs.Allowing.{link_cases}
use Rattle.inquiry.proofs.Answering.{held_is}
use Rattle.inquiry.proofs.Going.{after_one}

-- what a call that is allowed, or refused, makes for a reply
pub replied_answered : {A : Type 0} (put : A → Reply) (r : Result A Refusal) (o : Allowed) (a : A) → r ≡ answered o a → replied put r ≡ answered o (put a)
replied_answered put r (Ok u) a e = ap (replied put) e
replied_answered put r (Err w) a e = ap (replied put) e

-- where the tables fit there are not too many values and states
fit_counts : (a b : Bool) → ◌≡◌ {A = Allowed} (cond a (cond b (Ok tt) (Err UnfitTable)) (Err TooMany)) (Ok tt) → a ≡ true
fit_counts true b h = refl
fit_counts false b h = absurd (let z : ◌≡◌ {A = ℕ} 0 1 = cc in omega arith)

-- the same counts pass as the same
counts_pass : (a b : Counts) → a ≡ b → same_counts a b ≡ true
counts_pass a b e =
    and_from (eqb a.nodes b.nodes) (eqb a.values b.values && (eqb a.states b.states && eqb a.places b.places)) (eq-eqb _ _ (ap (λ (c : Counts). c.nodes) e))
    (and_from (eqb a.values b.values) (eqb a.states b.states && eqb a.places b.places) (eq-eqb _ _ (ap (λ (c : Counts). c.values) e))
    (and_from (eqb a.states b.states) (eqb a.places b.places) (eq-eqb _ _ (ap (λ (c : Counts). c.states) e)) (eq-eqb _ _ (ap (λ (c : Counts). c.places) e))))

-- what leads from every standing to the next leads from where requests have led to one request further
pub is_next : {A : Type 0} (C : Opened) (r : Request) (put : A → Reply) (i j : Inquiry) (table later : List Edge) (result : Result A Refusal)
    → ((s : Standing) → Represents C s i table → (replied put result ≡ answer C s r) × Represents C (step C s r) j later) → IsNext C r put i table j later result
is_next C r put i j table later result h = record {
  answers = λ rs at. (h (after C rs) at).0;
  reaches = λ rs at. subst (λ (s : Standing). Represents C s j later) (sym (after_one C rs r)) (h (after C rs) at).1;
}

module _ {R W : Type 0} (meaning : R → Program → Rule) (watching : W → Watch) (on : Subject R W) (i : Inquiry) (table : List Edge) (places edge_places : ℕ) where
  -- what the inquiry is about, with the edges in use, and what it was opened with
  abbrev X : Setting
  X = setting_of meaning watching on (in_use i table)

  abbrev C : Opened
  C = opened_on meaning watching on places edge_places

  module _ (s : Standing) (h : Represents C s i table) where
    -- the edges in use are those of the standing
    setting_is : X ≡ with_table C s.edges
    setting_is = ap (with_table C) h.used

    -- a dig is allowed
    may_dig : dig_answer i X (length table) ≡ Ok tt
    may_dig =
        let others : Allowed = cond (counts_fit X.rule.values X.watch.states) (cond (same_counts (counts_of X (length table)) i.opening.counts) (Ok tt) (Err OtherCounts)) (Err TooMany) in
        let few = fit_counts (counts_fit X.rule.values X.watch.states) (tables_fit (length C.own) C.places C.edge_places) h.fitted in
        let same = counts_pass (counts_of X (length table)) i.opening.counts (ap (counts_of X) h.long ∙ sym h.counts) in
        ap (λ o. void_or o others) h.fits ∙ cond-true (counts_fit X.rule.values X.watch.states) _ _ few ∙ cond-true (same_counts (counts_of X (length table)) i.opening.counts) _ _ same

    -- and it digs as it should
    dug_is : (allowed : ℕ) → dug X i.places allowed (state_of i) ≡ dug_at C s allowed
    dug_is allowed = λ k. dug (setting_is k) (h.places k) allowed (h.search k)

    -- a link is allowed as it should be
    link_is : (e : Edge) → link_answer i X table i.full e ≡ link_allowed C.program s.edges C.edge_places s.search.full e
    link_is e = ap (λ o. void_or o (link_allowed C.program (in_use i table) (length table) i.full e)) may_dig ∙ (λ k. let t : Search = h.search k in link_allowed C.program (h.used k) (h.long k) t.full e)

  -- a dig
  pub dig_next : (allowed : ℕ) (j : Inquiry) (r : Result Dug Refusal) → r ≡ answered (dig_answer i X (length table)) (dug_from (state_of i) (dug X i.places allowed (state_of i)))
      → state_of j ≡ unless (dig_answer i X (length table)) (dug X i.places allowed (state_of i)) (state_of i) → Grown i j → IsNext C (Dig allowed) Dig_done i table j table r
  dig_next allowed j r answers state grown =
      is_next C (Dig allowed) Dig_done i j table table r
      (λ s h.
      let may = may_dig s h in
      let dug_so = dug_is s h allowed in (
        replied_answered Dig_done r _ _ answers ∙ ap (λ o. answered o (Dig_done (dug_from (state_of i) (dug X i.places allowed (state_of i))))) may ∙ (λ k. Ok (Dig_done (dug_from (h.search k) (dug_so k)))),
        record {
          fitted = h.fitted;
          fits = grown.fits ∙ h.fits;
          places = grown.places ∙ h.places;
          counts = ap (λ (o : Opening). o.counts) grown.opening ∙ h.counts;
          long = h.long;
          used = ap (λ (o : Opening). take o.used table) grown.opening ∙ h.used;
          search = state ∙ ap (λ o. unless o (dug X i.places allowed (state_of i)) (state_of i)) may ∙ dug_so;
        },
      ))

  module _ (from to : ℕ) (j : Inquiry) (later : List Edge) (r : Result ℕ Refusal) where
    abbrev edge : Edge
    edge = record { from = from; to = to }

    abbrev asked_link : Allowed
    asked_link = link_answer i X table i.full edge

    abbrev now_used : ℕ
    now_used = i.opening.used + 1

    -- a link
    pub link_next : r ≡ answered asked_link now_used → state_of j ≡ unless asked_link (unworked (state_of i)) (state_of i)
        → later ≡ unless asked_link (linked X.program (in_use i table) edge ++ drop now_used table) table
        → j.opening ≡ unless asked_link (record { counts = i.opening.counts; used = now_used }) i.opening → Kept i j → IsNext C (Link from to) (λ n. Linked n) i table j later r
    link_next answers state edges used kept =
        is_next C (Link from to) (λ n. Linked n) i j table later r
        (λ s h.
        let may = link_is s h edge in
        let Q : Allowed → Type 0 = λ o. asked_link ≡ o → (replied (λ n. Linked n) r ≡ answered o (Linked (length s.edges + 1)))
        × Represents C (unless o (record { edges = linked C.program s.edges edge; search = unworked s.search }) s) j later in
        link_cases C.program s.edges C.edge_places s.search.full edge Q
        (λ right new room free ok.
        let more = linked X.program (in_use i table) edge in
        let all : i.opening.counts.places ≡ length table = ap (λ (c : Counts). c.places) h.counts ∙ sym h.long in
        let fits_in = i.used in
        let long : length s.edges ≡ i.opening.used = ap length (sym h.used) ∙ length-take-le i.opening.used table (omega arith) in
        let size : length more ≡ now_used = link_laws.longer X.program (in_use i table) edge ∙ ap (λ n. n + 1) (length-take-le i.opening.used table (omega arith)) in
        let becomes : later ≡ more ++ drop now_used table = edges ∙ ap (λ o. unless o (more ++ drop now_used table) table) ok in
        let opening : j.opening ≡ record { counts = i.opening.counts; used = now_used } = used ∙ ap (λ o. unless {A = Opening} o (record { counts = i.opening.counts; used = now_used }) i.opening) ok in
        let uses : j.opening.used ≡ now_used = ap (λ (o : Opening). o.used) opening in
        let found : state_of j ≡ unworked (state_of i) = state ∙ ap (λ o. unless o (unworked (state_of i)) (state_of i)) ok in
        let left = length-drop now_used table in
        let room_left = h.long in (
          replied_answered (λ n. Linked n) r _ _ answers ∙ ap (λ o. answered o (Linked now_used)) ok ∙ ap (λ n. Ok (Linked (n + 1))) (sym long),
          record {
            fitted = h.fitted;
            fits = kept.fits ∙ h.fits;
            places = kept.places ∙ h.places;
            counts = ap (λ (o : Opening). o.counts) opening ∙ h.counts;
            long = ap length becomes ∙ length-append more (drop now_used table) ∙ omega arith;
            used = (λ k. take (uses k) (becomes k)) ∙ take_at more (drop now_used table) now_used size ∙ ap (λ es. linked C.program es edge) h.used;
            search = found ∙ ap unworked h.search;
          },
        ))
        (λ why refused.
        let becomes : later ≡ table = edges ∙ ap (λ o. unless o (linked X.program (in_use i table) edge ++ drop now_used table) table) refused in
        let opening : j.opening ≡ i.opening = used ∙ ap (λ o. unless {A = Opening} o (record { counts = i.opening.counts; used = now_used }) i.opening) refused in
        let found : state_of j ≡ state_of i = state ∙ ap (λ o. unless o (unworked (state_of i)) (state_of i)) refused in
        let uses : j.opening.used ≡ i.opening.used = ap (λ (o : Opening). o.used) opening in (
          replied_answered (λ n. Linked n) r _ _ answers ∙ ap (λ o. answered o (Linked now_used)) refused,
          record {
            fitted = h.fitted;
            fits = kept.fits ∙ h.fits;
            places = kept.places ∙ h.places;
            counts = ap (λ (o : Opening). o.counts) opening ∙ h.counts;
            long = ap length becomes ∙ h.long;
            used = (λ k. take (uses k) (becomes k)) ∙ h.used;
            search = found ∙ h.search;
          },
        )) may)

  -- the opening, where the tables fit
  pub open_reaches : (before : List Edge) → fit_of C ≡ Ok tt → length table ≡ edge_places → i.fits ≡ fit_of C → i.opening ≡ opening_of (fit_of C) (with_table C C.own) (length C.own) edge_places
      → i.places ≡ unless (fit_of C) places 0 → state_of i ≡ unless (fit_of C) (opened (with_table C C.own) places) empty → table ≡ unless (fit_of C) (C.own ++ drop (length C.own) before) before → Reached C [] i table
  unfolding after_from
  open_reaches before ok long refusal opening room state edges =
      let opens : i.opening ≡ opening_of (Ok tt) (with_table C C.own) (length C.own) edge_places = opening ∙ ap (λ o. opening_of o (with_table C C.own) (length C.own) edge_places) ok in
      let copied = edges ∙ ap (λ o. unless o (C.own ++ drop (length C.own) before) before) ok in
      record {
        fitted = ok;
        fits = refusal ∙ ok;
        places = room ∙ ap (λ o. unless o places 0) ok;
        counts = ap (λ (o : Opening). o.counts) opens;
        long = long;
        used = (λ k. let o : Opening = opens k in take o.used (copied k)) ∙ take_at C.own (drop (length C.own) before) (length C.own) refl;
        search = state ∙ ap (λ o. unless o (opened (with_table C C.own) places) empty) ok;
      }

-- calls that are lent the watch alone
module _ (C : Opened) (i : Inquiry) where
  -- for the verdict
  pub verdict_next : (table : List Edge) (r : Result Outcome Refusal) (V : Watch) → V ≡ C.watch → r ≡ answered i.fits (verdict_of V (state_of i)) → IsNext C Verdict Judged i table i table r
  verdict_next table r V same answers =
      is_next C Verdict Judged i i table table r
      (λ s h. (replied_answered Judged r _ _ answers ∙ (λ k. answered (h.fits k) (Judged (verdict_of (same k) (h.search k)))), h))

  module _ (output output_later : List ℕ) (r : Result ℕ Refusal) where
    -- for a trace
    module _ (V : Watch) (same : V ≡ C.watch) where
      abbrev asked_trace : Allowed
      asked_trace = trace_answer i V (length output)

      -- it is allowed as it should be
      trace_is : (s : Standing) (table : List Edge) → Represents C s i table → asked_trace ≡ may_trace C s (length output)
      trace_is s table h = ap (λ o. void_or o (trace_allowed V (state_of i) (length output))) h.fits ∙ (λ k. trace_allowed (same k) (h.search k) (length output))

      pub trace_next : r ≡ answered asked_trace (trace_length V (state_of i)) → output_later ≡ unless asked_trace (trace_output V (state_of i) output) output → IsNextTrace C (λ n. Traced n) i output output_later r
      trace_next answers writes = record {
        next = λ table.
            is_next C (Trace (length output)) (λ n. Traced n) i i table table r
            (λ s h. (replied_answered (λ n. Traced n) r _ _ answers ∙ (λ k. answered (trace_is s table h k) (Traced (trace_length (same k) (h.search k)))), h));
        writes = λ rs table h. writes ∙ (λ k. unless (trace_is (after C rs) table h k) (trace_output (same k) (h.search k) output) output);
      }

  -- for the end
  pub end_is : (facts : List Fact) (r : Result Report Refusal) (V : Watch) → V ≡ C.watch → r ≡ answered i.fits (report_of V (state_of i)) → facts ≡ i.facts.now → IsEnd C i facts r
  end_is facts r V same answers kept = record {
    reports = λ rs table h. answers ∙ (λ k. answered (h.fits k) (report_of (same k) (h.search k)));
    holds = λ rs table h. let rows = ap (λ (t : Search). t.rows) h.search in (λ k. take (sym (held_is i ∙ ap length rows) k) (kept k)) ∙ rows;
  }
