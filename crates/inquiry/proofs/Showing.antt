-- The trace of the first bad fact: when it is written, and what the output then holds.
use Rattle.std.proofs.Common.{◌≡◌, ℕ, suc, ◌+◌, ◌<◌, ◌≤◌, true, ◌&&◌, leb, ltb, List, ◌++◌, length, take, drop, reverse, Ok, sym, ap, ◌∙◌, subst, add-one}
use Rattle.std.proofs.lemmas.List.{length-reverse, take_at}
use Rattle.std.proofs.lemmas.Bool.{and_from, cond-true, le-leb, lt-ltb}
use Rattle.model.specs.declared.Fact.{Fact}
use Rattle.model.specs.Searches.{BadTrace, first_trace}
use Rattle.model.specs.Tables.{any_bad, first_bad}
use Rattle.model.specs.Watches.{Watch}
use Rattle.model.proofs.Telling.{search_tells}
use Rattle.model.proofs.Traces.{told_shows}
use Rattle.inquiry.specs.Calls.{void_or, trace_length, trace_allowed, trace_answer, trace_output}
use Rattle.inquiry.specs.Inquiries.{state_of}
use Rattle.inquiry.specs.Promises.{Bad}
use Rattle.inquiry.specs.Shapes.{back_from}
use Rattle.inquiry.specs.declared.Inquiry.{Inquiry}

module _ (W : Watch) (rows : List Fact) (i : ℕ) (first : i ≡ first_bad W rows) where
  -- the trace of the first bad row, backwards
  trace_is : reverse (back_from rows (i + 1)) ≡ first_trace W rows
  trace_is = ap (λ k. reverse (back_from rows k)) (add-one i) ∙ ap (λ k. reverse (back_from rows (suc k))) first

  pub trace_long : length (back_from rows (i + 1)) ≡ length (first_trace W rows)
  trace_long = sym (length-reverse (back_from rows (i + 1))) ∙ ap length trace_is

  pub trace_written : (old new : List ℕ) → new ≡ reverse (back_from rows (i + 1)) ++ drop (length (back_from rows (i + 1))) old → new ≡ first_trace W rows ++ drop (length (first_trace W rows)) old
  trace_written old new e = e ∙ (λ j. trace_is j ++ drop (trace_long j) old)

module _ (W : Watch) (t : Inquiry) (fits : t.fits ≡ Ok tt) (bad : any_bad W (state_of t).rows ≡ true) where
  -- a trace is written that has room, and whose length is told
  pub trace_may : (room : ℕ) → trace_length W (state_of t) ≤ room → trace_length W (state_of t) < 4294967295 → trace_answer t W room ≡ Ok tt
  trace_may room long small =
      ap (λ o. void_or o (trace_allowed W (state_of t) room)) fits ∙ cond-true (any_bad W (state_of t).rows) _ _ bad
      ∙ cond-true (leb (trace_length W (state_of t)) room && ltb (trace_length W (state_of t)) 4294967295) _ _ (and_from (leb (trace_length W (state_of t)) room) (ltb (trace_length W (state_of t)) 4294967295) (le-leb _ _ long) (lt-ltb _ _ small))

  -- the front of the output is then the trace of a bad run
  pub trace_bad : (nodes : ℕ) (old new : List ℕ) → nodes ≡ length (first_trace W (state_of t).rows) → new ≡ trace_output W (state_of t) old → Bad W t (take nodes new)
  trace_bad nodes old new long e X same sound =
      let shown = told_shows X t.places (state_of t) (search_tells X t.places (state_of t) sound) (subst (λ V. any_bad V (state_of t).rows ≡ true) (sym same) bad) in
      subst (BadTrace X) (sym (ap (take nodes) e ∙ take_at (first_trace W (state_of t).rows) (drop (length (first_trace W (state_of t).rows)) old) nodes (sym long)))
      (subst (λ V. BadTrace X (first_trace V (state_of t).rows)) same shown)
