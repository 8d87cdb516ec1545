-- The trace that is shown: a walker accepts it as a bad run, and it is written where it fits.
use Rattle.std.proofs.Common.{◌≡◌, ℕ, true, List, length, is_ok, Ok, Err, Result, MatchResult, refl, ap, ◌∙◌, inl, inr}
use Rattle.std.proofs.lemmas.Bool.{false≢true, both_ways}
use Rattle.model.specs.declared.Frame.{Frame}
use Rattle.model.specs.Facts.{Setting}
use Rattle.model.specs.Searches.{BadTrace, first_trace}
use Rattle.model.specs.Tables.{any_bad}
use Rattle.model.proofs.Determined.{follows_from_trace}
use Rattle.recipe.specs.declared.grounds.Refusal.{Refusal}
use Rattle.walker.specs.declared.stands.Stand.{Stand}
use Rattle.walker.specs.Accepted.{Stands, Refuses}
use Rattle.walker.specs.Walking.{replayed}
use Rattle.walker.proofs.Walks.{told, accepts}
use Rattle.inquiry.specs.Calls.{answered, unless, trace_length, trace_output}
use Rattle.inquiry.specs.declared.requests.Request.TheVariants.{Trace}
use Rattle.inquiry.specs.declared.requests.Reply.TheVariants.{Traced}
use Rattle.inquiry.specs.Histories.{Opened, Standing, answer, output_by}
use Rattle.asking.specs.Law.{Walks, Written}
use Rattle.inquiry.proofs.Allowing.{trace_cases}
use Rattle.asking.proofs.Moving.{more_bad_trace}

-- a walk that is accepted along the trace of a bad run stands bad
stands_bad : (X : Setting) (t : List ℕ) (stack : List Frame) (a : Result Stand Refusal) → BadTrace X t → MatchResult a (Stands X.program X.edges X.rule X.watch t stack) (Refuses X.program X.edges X.rule X.watch t stack) → is_ok a ≡ true
    → (s : Stand) × (a ≡ Ok s) × (s.bad ≡ true)
stands_bad X t stack (Ok s) run h ok =
    (s, refl, h.bad ∙ ap X.watch.bad (follows_from_trace X.program X.edges X.rule X.watch _ _ _ s.state run.1 h.run run.2).1 ∙ run.3)
stands_bad X t stack (Err why) run h ok = absurd (false≢true ok)

-- so a walker accepts that trace, over any list of the same edges
pub bad_walks : (X : Setting) (t : List ℕ) → BadTrace X t → Walks X t
bad_walks X t run es stack fewer more enough =
    let moved = more_bad_trace X es more t run in
    stands_bad (record { program = X.program; edges = es; rule = X.rule; watch = X.watch }) t (replayed X.program es X.rule X.watch t stack).stack (replayed X.program es X.rule X.watch t stack).at moved
    (told X.program es X.rule X.watch t stack) ((accepts X.program es X.rule X.watch t stack enough).1 (moved.0, moved.1, moved.2))

-- where a row is bad the trace of the first one is written, or it is too long
pub trace_written : (C : Opened) (s : Standing) (room : ℕ) (output : List ℕ) → any_bad C.watch s.search.rows ≡ true → Written (first_trace C.watch s.search.rows) room (answer C s (Trace room)) output (output_by C s (Trace room) output)
trace_written C s room output bad =
    trace_cases C.watch s.search room (λ o. Written (first_trace C.watch s.search.rows) room (answered o (Traced (trace_length C.watch s.search))) output (unless o (trace_output C.watch s.search output) output))
    (λ _ low below same. inl (ap (λ n. Ok (Traced n)) same, low, below, refl)) (λ _ over. inr (refl, over, refl)) (λ good. absurd (both_ways (any_bad C.watch s.search.rows) good bad))
