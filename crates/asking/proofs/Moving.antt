-- What holds of a setting holds of it with more edges: that a run goes bad, that a list is the trace of a bad run, and that facts are yielded.
use Rattle.std.proofs.Common.{ℕ, List}
use Rattle.model.specs.declared.Edge.{Edge}
use Rattle.model.specs.declared.Point.{Point}
use Rattle.model.specs.Facts.{Setting, RunGoesBad}
use Rattle.model.specs.Links.{Among, with_edges}
use Rattle.model.specs.Searches.{Different, BadTrace}
use Rattle.model.proofs.Links.{link_laws}

module _ (X : Setting) (es : List Edge) (more : Among X.edges es) where
  -- some run goes bad
  pub more_goes_bad : RunGoesBad X → RunGoesBad (with_edges X es)
  more_goes_bad h = (h.0, h.1, h.2, link_laws.more_runs X es more h.3, h.4)

  -- a list of nodes is the trace of a bad run
  pub more_bad_trace : (t : List ℕ) → BadTrace X t → BadTrace (with_edges X es) t
  more_bad_trace t h = (h.0, h.1, link_laws.more_runs X es more h.2, h.3)

  -- facts are yielded, and differ
  pub more_different : (fs : List (Point × Point)) → Different X fs → Different (with_edges X es) fs
  more_different fs h = record { yielded = λ i lt. link_laws.more_facts X es more (h.yielded i lt); apart = h.apart }
