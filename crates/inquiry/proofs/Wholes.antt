-- A whole inquiry: its opening, its dig and its close come to one search.
use Rattle.std.proofs.Common.{◌≡◌, ℕ, Bool, true, false, cond, ◌&&◌, leb, List, ◌++◌, length, take, drop, IfOk, Ok, Err, Result, sym, refl, ap, ◌∙◌, subst, arith}
use Rattle.std.proofs.lemmas.List.{take_at, take-append-drop, length-append, length-drop}
use Rattle.std.proofs.lemmas.Bool.{and_parts, and_from, leb-true, eq-eqb, cond-true}
use Rattle.model.specs.declared.Edge.{Edge}
use Rattle.model.specs.declared.Fact.{Fact}
use Rattle.model.specs.Access.{Rule}
use Rattle.model.specs.Facts.{Setting}
use Rattle.model.specs.Program.{Program}
use Rattle.model.specs.Searches.{Means}
use Rattle.model.specs.Tables.{Search, opened, empty, dug, verdict_of}
use Rattle.model.specs.Watches.{Watch}
use Rattle.model.proofs.Searching.{opened_sound, dug_sound}
use Rattle.model.proofs.Telling.{search_tells}
use Rattle.model.proofs.Verdicts.{verdict_means, dug_ends}
use Rattle.recipe.specs.declared.grounds.Refusal.{Refusal}
use Rattle.recipe.specs.declared.grounds.Refusal.TheVariants.{TooMany, OtherCounts, UnfitTable}
use Rattle.recipe.specs.Recipes.{own_edges}
use Rattle.rules.specs.declared.subject.Subject.{Subject}
use Rattle.rules.specs.Subjects.{setting_of}
use Rattle.inquiry.specs.declared.Inquiry.{Inquiry}
use Rattle.inquiry.specs.declared.Opening.{Opening}
use Rattle.inquiry.specs.declared.reports.Report.{Report}
use Rattle.inquiry.specs.Calls.{Allowed, answered, unless, counts_fit, tables_fit, fit_answer, in_use, counts_of, same_counts, void_or, dig_answer, opening_of, report_of}
use Rattle.inquiry.specs.Inquiries.{state_of, Grown}
use Rattle.inquiry.specs.Promises.{Right, Comes}
use Rattle.inquiry.proofs.Allowed.{by_cases}
use Rattle.inquiry.proofs.Answering.{held_is}
use Rattle.inquiry.proofs.Growing.{drop_later}

-- two tests that refuse nothing both pass
both_pass : (a b : Bool) (e f : Refusal) → ◌≡◌ {A = Allowed} (Ok tt) (cond a (cond b (Ok tt) (Err e)) (Err f)) → (a ≡ true) × (b ≡ true)
both_pass true true e f h = (refl, refl)
both_pass true false e f h = absurd (let z : ◌≡◌ {A = ℕ} 0 1 = cc in omega arith)
both_pass false b e f h = absurd (let z : ◌≡◌ {A = ℕ} 0 1 = cc in omega arith)

-- a search from its opening on comes to its report
pub comes_so : (X : Setting) (places allowed : ℕ) → Comes X places allowed (dug X places allowed (opened X places)) (report_of X.watch (dug X places allowed (opened X places)))
comes_so X places allowed =
    let end = dug X places allowed (opened X places) in
    let sound = dug_sound X places allowed (opened X places) (opened_sound X places) in
    record {
      told = search_tells X places end sound;
      means = verdict_means X places end sound;
      ends = dug_ends X places allowed (opened X places) (opened_sound X places);
      held = refl;
      worked = refl;
    }

-- a verdict is right
pub judged_right : (W : Watch) (i : Inquiry) → Right W i (verdict_of W (state_of i))
judged_right W i X same sound = subst (λ V. Means X i.places (state_of i) (verdict_of V (state_of i))) same (verdict_means X i.places (state_of i) sound)

-- and so is the one in a report
pub report_right : (W : Watch) (i : Inquiry) (r : Result Report Refusal) → r ≡ answered i.fits (report_of W (state_of i)) → IfOk r (λ report. Right W i report.verdict)
report_right W i r answer =
    subst (λ a. IfOk a (λ report. Right W i report.verdict)) (sym answer)
    (by_cases (λ o. IfOk (answered o (report_of W (state_of i))) (λ report. Right W i report.verdict)) i.fits (λ _. judged_right W i) (λ e _. tt))

module _ {R W : Type 0} (meaning : R → Program → Rule) (watching : W → Watch) (on : Subject R W) (facts : List Fact) (edges : List Edge) (allowed : ℕ) where
  abbrev own : List Edge
  own = own_edges on.recipe.now

  abbrev X : Setting
  X = setting_of meaning watching on own

  abbrev fits : Allowed
  fits = fit_answer X (length own) (length facts) (length edges)

  abbrev end : Search
  end = dug X (length facts) allowed (opened X (length facts))

  module _ (i j : Inquiry) (es : List Edge) (fitting : i.fits ≡ fits) (opening : i.opening ≡ opening_of fits X (length own) (length edges))
      (places : i.places ≡ unless fits (length facts) 0) (search : state_of i ≡ unless fits (opened X (length facts)) empty)
      (copied : es ≡ unless fits (own ++ drop (length own) edges) edges)
      (digs : state_of j ≡ unless (dig_answer i (setting_of meaning watching on (in_use i es)) (length es)) (dug (setting_of meaning watching on (in_use i es)) i.places allowed (state_of i)) (state_of i)) where
    -- an opening that fits
    fitted : Ok tt ≡ fits → state_of j ≡ end
    fitted none =
        let pass = both_pass (counts_fit X.rule.values X.watch.states) (tables_fit (length own) (length facts) (length edges)) UnfitTable TooMany none in
        let room = leb-true (length own) (length edges) (and_parts (leb (length own) (length edges)) (leb (length edges) 4096 && leb (length facts) 65536) pass.1).0 in
        let now_copied : es ≡ own ++ drop (length own) edges = copied ∙ ap (λ o. unless o (own ++ drop (length own) edges) edges) (sym none) in
        let used : i.opening.used ≡ length own = ap (λ (o : Opening). o.used) opening ∙ ap (λ o. unless o (length own) 0) (sym none) in
        let in_use_lem : in_use i es ≡ own = ap (λ n. take n es) used ∙ ap (take (length own)) now_copied ∙ take_at own (drop (length own) edges) (length own) refl in
        let long : length es ≡ length edges = ap length now_copied ∙ length-append own (drop (length own) edges) ∙ simp length-drop (omega arith) in
        let same : same_counts (counts_of X (length es)) i.opening.counts ≡ true =
        and_from _ _ (eq-eqb _ _ (ap (λ (o : Opening). o.counts.nodes) (sym opening)))
        (and_from _ _ (eq-eqb _ _ (ap (λ (o : Opening). o.counts.values) (sym opening)))
        (and_from _ _ (eq-eqb _ _ (ap (λ (o : Opening). o.counts.states) (sym opening))) (eq-eqb _ _ (long ∙ ap (λ (o : Opening). o.counts.places) (sym opening))))) in
        let free : dig_answer i X (length es) ≡ Ok tt =
        ap (λ o. void_or o (cond (counts_fit X.rule.values X.watch.states) (cond (same_counts (counts_of X (length es)) i.opening.counts) (Ok tt) (Err OtherCounts)) (Err TooMany))) (fitting ∙ sym none)
        ∙ cond-true (counts_fit X.rule.values X.watch.states) (cond (same_counts (counts_of X (length es)) i.opening.counts) (Ok tt) (Err OtherCounts)) (Err TooMany) pass.0
        ∙ cond-true (same_counts (counts_of X (length es)) i.opening.counts) (Ok tt) (Err OtherCounts) same in
        digs ∙ ap (λ o. unless o (dug (setting_of meaning watching on (in_use i es)) i.places allowed (state_of i)) (state_of i)) free
        ∙ ap (λ ds. dug (setting_of meaning watching on ds) i.places allowed (state_of i)) in_use_lem
        ∙ ap (λ n. dug X n allowed (state_of i)) (places ∙ ap (λ o. unless o (length facts) 0) (sym none))
        ∙ ap (dug X (length facts) allowed) (search ∙ ap (λ o. unless o (opened X (length facts)) empty) (sym none))

    -- a void one
    void : (e : Refusal) → Err e ≡ fits → state_of j ≡ empty
    void e some =
        let X' = setting_of meaning watching on (in_use i es) in
        let bars : dig_answer i X' (length es) ≡ Err e =
        ap (λ o. void_or o (cond (counts_fit X'.rule.values X'.watch.states) (cond (same_counts (counts_of X' (length es)) i.opening.counts) (Ok tt) (Err OtherCounts)) (Err TooMany))) (fitting ∙ sym some) in
        digs ∙ ap (λ o. unless o (dug X' i.places allowed (state_of i)) (state_of i)) bars ∙ search ∙ ap (λ o. unless o (opened X (length facts)) empty) (sym some)

    -- the search after the dig
    pub comes_to : state_of j ≡ unless fits end empty
    comes_to = by_cases (λ o. o ≡ fits → state_of j ≡ unless o end empty) fits (λ none h. fitted none) (λ e some h. void e some) refl

    -- the fact table then: the rows, and past them what was there
    pub table_then : Grown i j → drop i.held i.facts.now ≡ drop i.held facts → j.facts.now ≡ unless fits (end.rows ++ drop (length end.rows) facts) facts
    table_then grown rest =
        sym (take-append-drop j.held j.facts.now)
        ∙ ap (λ xs. (state_of j).rows ++ xs) (grown.rest ∙ drop_later i.held j.held i.facts.now facts grown.more rest ∙ ap (λ n. drop n facts) (held_is j))
        ∙ ap (λ (s : Search). s.rows ++ drop (length s.rows) facts) comes_to
        ∙ by_cases (λ o. (unless o end empty).rows ++ drop (length (unless o end empty).rows) facts ≡ unless o (end.rows ++ drop (length end.rows) facts) facts) fits (λ _. refl) (λ e _. refl)

    -- the answer of close
    pub answer_then : (r : Result Report Refusal) → j.fits ≡ i.fits → r ≡ answered j.fits (report_of X.watch (state_of j)) → r ≡ answered fits (report_of X.watch end)
    answer_then r kept closed =
        closed ∙ ap (λ o. answered o (report_of X.watch (state_of j))) (kept ∙ fitting) ∙ ap (λ s. answered fits (report_of X.watch s)) comes_to
        ∙ by_cases (λ o. answered o (report_of X.watch (unless o end empty)) ≡ answered o (report_of X.watch end)) fits (λ _. refl) (λ e _. refl)

  -- what the answer tells of runs and of facts
  pub told_then : (r : Result Report Refusal) → r ≡ answered fits (report_of X.watch end) → IfOk r (Comes X (length facts) allowed end)
  told_then r answer =
      subst (λ a. IfOk a (Comes X (length facts) allowed end)) (sym answer)
      (by_cases (λ o. IfOk (answered o (report_of X.watch end)) (Comes X (length facts) allowed end)) fits (λ _. comes_so X (length facts) allowed) (λ e _. tt))
