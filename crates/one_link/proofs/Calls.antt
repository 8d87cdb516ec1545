-- Calls in a row: what was opened, linked, dug and closed comes to a verdict of the linked recipe.
use Rattle.std.proofs.Common.{◌≡◌, ℕ, ◌+◌, ◌≤◌, cond, List, [], ◌∷◌, ◌++◌, length, Ok, Err, Result, sym, refl, ap, ◌∙◌, subst, arith}
use Rattle.model.specs.declared.Edge.{Edge}
use Rattle.model.specs.declared.Fact.{Fact}
use Rattle.model.specs.declared.Verdict.TheVariants.{Unfinished}
use Rattle.model.specs.Access.{Rule}
use Rattle.model.specs.Facts.{Setting}
use Rattle.model.specs.Program.{Program, counted}
use Rattle.model.specs.Watches.{Watch}
use Rattle.model.proofs.Edges.{lawful_counted}
use Rattle.recipe.specs.declared.grounds.Refusal.{Refusal}
use Rattle.recipe.specs.declared.grounds.Refusal.TheVariants.{TooMany, OtherCounts}
use Rattle.recipe.proofs.Standing.{stands}
use Rattle.rules.specs.declared.subject.Subject.{Subject}
use Rattle.inquiry.specs.declared.Inquiry.{Inquiry}
use Rattle.inquiry.specs.declared.reports.Dug.{Dug}
use Rattle.inquiry.specs.declared.reports.Report.{Report}
use Rattle.inquiry.specs.declared.requests.Request.{Request}
use Rattle.inquiry.specs.declared.requests.Request.TheVariants.{Dig, Link, Verdict}
use Rattle.inquiry.specs.declared.requests.Reply.TheVariants.{Dug as DigDone, Linked, Judged}
use Rattle.inquiry.specs.Calls.{Allowed, answered, in_use, counts_fit, counts_of, same_counts, void_or, link_allowed, link_answer, report_of}
use Rattle.inquiry.specs.Histories.{Opened, opened_on, fit_of, after_from, after, asked, replies_from, accepted, accepted_one, links, linked_recipe}
use Rattle.inquiry.specs.Reached.{Reached, replied, IsNext, IsEnd}
use Rattle.asking.specs.Law.{Law, Says, IsRight}
use Rattle.one_link.specs.Linked.{linked_with}

-- a void inquiry refuses a link as its opening was refused
pub void_refuses : (X : Setting) (i : Inquiry) (table : List Edge) (e : Edge) (n : ℕ) (why : Refusal) → i.fits ≡ Err why → answered (link_answer i X table i.full e) n ≡ Err why
void_refuses X i table e n why void =
    ap (λ o. answered (void_or (void_or o (cond (counts_fit X.rule.values X.watch.states) (cond (same_counts (counts_of X (length table)) i.opening.counts) (Ok tt) (Err OtherCounts)) (Err TooMany))) (link_allowed X.program (in_use i table) (length table) i.full e)) n) void

module _ {R W : Type 0} (meaning : R → Program → Rule) (watching : W → Watch) (on : Subject R W) (places edge_places : ℕ) (e : Edge) (k : ℕ) (law : (C : Opened) → Law C)
    (opened linked dug : Inquiry) (table later : List Edge) (answer : Result ℕ Refusal) (n : ℕ) (finished : Result Dug Refusal) (facts : List Fact) (end : Result Report Refusal) (report : Report) where
  -- what was opened, and what was asked of it
  abbrev C : Opened
  C = opened_on meaning watching on places edge_places

  abbrev link : Request
  link = Link e.from e.to

  abbrev both : List Request
  both = link ∷ Dig k ∷ []

  module _ (opens : fit_of C ≡ Ok tt → Reached C [] opened table) (fits : opened.fits ≡ fit_of C) (refuses : (why : Refusal) → opened.fits ≡ Err why → answer ≡ Err why) (links_on : IsNext C link (λ m. Linked m) opened table linked later answer) (was : answer ≡ Ok n)
      (digs_on : IsNext C (Dig k) DigDone linked later dug later finished) (ends : IsEnd C dug facts end) (reported : end ≡ Ok report) where
    -- the tables fit, for else the link would be refused
    fitted : fit_of C ≡ Ok tt
    fitted = by (fit_of C) refl
      where
        by : (o : Allowed) → fit_of C ≡ o → fit_of C ≡ Ok tt
        by (Ok u) is = is
        by (Err why) is = absurd (let no = refuses why (fits ∙ is) in let z : ◌≡◌ {A = ℕ} 0 1 = cc in omega arith)

    begun_at : Reached C [] opened table
    begun_at = opens fitted

    -- the history is both requests, and the report that of where they lead
    reached : Reached C both dug later
    reached = digs_on.reaches (link ∷ []) (links_on.reaches [] begun_at)

    report_is : report ≡ report_of C.watch (after C both).search
    report_is = let told = sym reported ∙ ends.reports both later reached in let is : report ≡ report_of C.watch (after C both).search = cc in is

    says : Says C both report.verdict
    says = ap (λ (r : Report). Ok (Judged r.verdict)) (sym report_is)

    -- the link was accepted
    accepted_is : asked C [] link ≡ Ok (Linked n)
    accepted_is = sym (links_on.answers [] begun_at) ∙ ap (replied (λ m. Linked m)) was

    one_link : links C (link ∷ []) ≡ e ∷ []
    unfolding replies_from accepted after_from
    one_link = ap (λ a. accepted_one link a ++ []) accepted_is

    one_link_dug : links C both ≡ e ∷ []
    unfolding replies_from accepted after_from
    one_link_dug = ap (λ a. accepted_one link a ++ []) accepted_is

    -- so the linked recipe has its own edges and this one
    linked_is : linked_recipe C both ≡ linked_with meaning watching on e
    linked_is = λ i. record { program = C.program; edges = lawful_counted C.program C.own (stands on.recipe.now) i ++ one_link_dug i; rule = C.rule; watch = C.watch }

    pub right : IsRight (linked_with meaning watching on e) places report.verdict
    right = subst (λ X. IsRight X places report.verdict) linked_is ((law C).right both report.verdict says)

    pub finishes : 65536 ≤ k → report.verdict ≡ Unfinished → ⊥
    finishes many left =
        let few = opened.few in
        let room = begun_at.places in
        (law C).ending (link ∷ []) [] k (omega arith) (one_link_dug ∙ sym one_link) (subst (Says C both) left says)
