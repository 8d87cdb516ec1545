-- Verdicts: what led to each, and what a request for one is answered.
use Rattle.std.proofs.Common.{◌≡◌, true, false, not, ltb, leb, List, length, Ok, ap, ◌∙◌}
use Rattle.std.proofs.lemmas.Bool.{and_from, not_from_false, leb-true, leb-false, lt-ltb, cond-true, cond-false, le-leb, cond_both}
use Rattle.model.specs.declared.Verdict.{Verdict as Outcome}
use Rattle.model.specs.declared.Verdict.TheVariants.{Safe, Unsafe, Full, Unfinished}
use Rattle.model.specs.Searches.{Through}
use Rattle.model.specs.Tables.{Search, pending, any_bad, verdict_of}
use Rattle.model.specs.Watches.{Watch}
use Rattle.inquiry.specs.declared.requests.Request.{Request}
use Rattle.inquiry.specs.declared.requests.Reply.TheVariants.{Judged}
use Rattle.inquiry.specs.Histories.{Opened, after}
use Rattle.asking.specs.Law.{Says}

module _ (W : Watch) (s : Search) where
  -- the four cases, each with what led to it
  verdict_cases : (P : Outcome → Type 0) → (any_bad W s.rows ≡ true → P Unsafe) → (s.full ≡ true → P Full) → (any_bad W s.rows ≡ false → Through s → P Safe) → (pending s ≡ true → P Unfinished) → P (verdict_of W s)
  verdict_cases P bad past through left =
      cond_both (any_bad W s.rows) Unsafe _ P bad
      (λ good. cond_both s.full Full _ P past
      (λ free. cond_both (leb (length s.rows) s.worked) Safe Unfinished P (λ all. through good (free, leb-true (length s.rows) s.worked all))
      (λ more. left (and_from (not s.full) (ltb s.worked (length s.rows)) (not_from_false s.full free) (lt-ltb s.worked (length s.rows) (leb-false (length s.rows) s.worked more))))))

  -- unsafe comes of a bad fact, safe of a search that is through, and unfinished of what is left to work
  pub bad_if_unsafe : verdict_of W s ≡ Unsafe → any_bad W s.rows ≡ true
  bad_if_unsafe = verdict_cases (λ v. v ≡ Unsafe → any_bad W s.rows ≡ true) (λ bad _. bad) (λ _ e. cc) (λ _ _ e. cc) (λ _ e. cc)

  pub through_if_safe : verdict_of W s ≡ Safe → Through s
  through_if_safe = verdict_cases (λ v. v ≡ Safe → Through s) (λ _ e. absurd (cc)) (λ _ e. absurd (cc)) (λ _ through _. through) (λ _ e. absurd (cc))

  pub pending_if_unfinished : verdict_of W s ≡ Unfinished → pending s ≡ true
  pending_if_unfinished = verdict_cases (λ v. v ≡ Unfinished → pending s ≡ true) (λ _ e. cc) (λ _ e. cc) (λ _ _ e. cc) (λ left _. left)

  pub full_if_full : verdict_of W s ≡ Full → s.full ≡ true
  full_if_full = verdict_cases (λ v. v ≡ Full → s.full ≡ true) (λ _ e. cc) (λ past _. past) (λ _ _ e. cc) (λ _ e. cc)

  -- a bad fact makes it unsafe
  pub unsafe_if_bad : any_bad W s.rows ≡ true → verdict_of W s ≡ Unsafe
  unsafe_if_bad bad = cond-true (any_bad W s.rows) Unsafe _ bad

  -- where there is none, and the search is through, it is safe
  pub safe_if_through : any_bad W s.rows ≡ false → Through s → verdict_of W s ≡ Safe
  safe_if_through good through =
      cond-false (any_bad W s.rows) Unsafe _ good ∙ cond-false s.full Full _ through.0 ∙ cond-true (leb (length s.rows) s.worked) Safe Unfinished (le-leb (length s.rows) s.worked through.1)

module _ (C : Opened) (rs : List Request) where
  -- the answer to a request for the verdict is that of the search
  pub said : (v : Outcome) → Says C rs v → verdict_of C.watch (after C rs).search ≡ v
  said v e = cc

  -- and the other way round
  pub says : (v : Outcome) → verdict_of C.watch (after C rs).search ≡ v → Says C rs v
  says v e = ap (λ w. Ok (Judged w)) e
