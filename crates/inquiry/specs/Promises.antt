-- What a whole inquiry tells, in terms of runs and yielded facts.
use Rattle.std.specs.Prelude.{◌≡◌, ℕ, ◌≤◌, List, length, ◌≢◌}
use Rattle.model.specs.declared.Verdict.{Verdict}
use Rattle.model.specs.declared.Verdict.TheVariants.{Unfinished}
use Rattle.model.specs.Facts.{Setting}
use Rattle.model.specs.Searches.{Sound, Told, Means, BadTrace}
use Rattle.model.specs.Tables.{Search}
use Rattle.model.specs.Watches.{Watch}
use Rattle.inquiry.specs.declared.Inquiry.{Inquiry}
use Rattle.inquiry.specs.declared.reports.Report.{Report}
use Rattle.inquiry.specs.Inquiries.{state_of}

-- a verdict is right for every setting with this watch in which the inquiry is sound, as an opening makes it and each dig keeps it
abbrev pub Right : Watch → Inquiry → Verdict → Type 0
Right W i v = (X : Setting) → X.watch ≡ W → Sound X i.places (state_of i) → Means X i.places (state_of i) v

-- a list of nodes is the trace of a run that leaves the watch bad, in every setting with this watch in which the inquiry is sound
abbrev pub Bad : Watch → Inquiry → List ℕ → Type 0
Bad W i ns = (X : Setting) → X.watch ≡ W → Sound X i.places (state_of i) → BadTrace X ns

-- an inquiry came to this report: each held fact is yielded, with its stretch, and none twice; the verdict is right; and a dig of as many facts as there are places leaves nothing unfinished
pub record Comes (X : Setting) (places allowed : ℕ) (s : Search) (r : Report) : Type 0 where
  pub told : Told X places s
  pub means : Means X places s r.verdict
  pub ends : places ≤ allowed → r.verdict ≢ Unfinished
  pub held : r.held ≡ length s.rows
  pub worked : r.worked ≡ s.worked
