-- Facts: what a call that began somewhere can come to, every inner call having returned, whatever stands below it.
use Rattle.std.specs.Prelude.{◌≡◌, ℕ, true, List, [], ◌∷◌, ◌++◌}
use Rattle.model.specs.declared.Edge.{Edge}
use Rattle.model.specs.declared.Frame.{Frame}
use Rattle.model.specs.declared.Kind.{Kind}
use Rattle.model.specs.declared.Point.{Point}
use Rattle.model.specs.Access.{Rule, call_enters}
use Rattle.model.specs.Program.{Program, node_at, is_entry_of, Leads}
use Rattle.model.specs.Runs.{Run, reads, goes_on, returns_at}
use Rattle.model.specs.Watches.{Watch}

-- what an inquiry is about: a program, the edges that count, a rule and a watch
pub record Setting : Type 0 where
  pub program : Program
  pub edges : List Edge
  pub rule : Rule
  pub watch : Watch

-- what a point's node does
abbrev pub kind_at : Setting → Point → Kind
kind_at X c = (node_at X.program c.node).kind

-- the watch's state after the node that is come to
abbrev pub step_to : Setting → ℕ → ℕ → ℕ
step_to X q m = X.watch.step q (reads X.program m)

-- an entry of main, where a run starts
abbrev pub first_point : Setting → ℕ → Point
first_point X n = record { node = n; value = X.rule.first n; state = step_to X X.watch.start n }

-- from a nop or a passed check at c, along an edge to m
abbrev pub follow_point : Setting → Point → ℕ → Point
follow_point X c m = record { node = m; value = c.value; state = step_to X c.state m }

-- from a call at c into entry m of its callee
abbrev pub enter_point : Setting → Point → ℕ → Point
enter_point X c m = record { node = m; value = X.rule.enter c.value c.node m; state = step_to X c.state m }

-- after a call at c, whose callee returned at x, along an edge of the call to m
abbrev pub back_point : Setting → Point → Point → ℕ → Point
back_point X c x m = record { node = m; value = X.rule.back c.value c.node x.value x.node; state = step_to X x.state m }

-- the four rules. A fact is derived: a call that began at the first point can be at the second. Beside it, each with its last node first: its stretch, the nodes since that beginning, and what stands below, the nodes of a run before it
pub data Derives (X : Setting) : Point → Point → List ℕ → List ℕ → Type 0 where
  -- 1: an entry of main
  first : (n : ℕ) → is_entry_of X.program 0 n ≡ true → Derives X (first_point X n) (first_point X n) (n ∷ []) []
  -- 2: from a nop or a passed check along an edge
  follow : {s c : Point} {l b : List ℕ} (m : ℕ) → Derives X s c l b → goes_on X.rule (kind_at X c) c.node c.value ≡ true → Leads X.edges c.node m
      → Derives X s (follow_point X c m) (m ∷ l) b
  -- 3: from a call to an entry of its callee, where another call begins
  enter : {s c : Point} {l b : List ℕ} (m : ℕ) → Derives X s c l b → call_enters X.program (kind_at X c) m ≡ true
      → Derives X (enter_point X c m) (enter_point X c m) (m ∷ []) (l ++ b)
  -- 4: from a call, and a return of a call that begins where rule 3 leads from it, along an edge of the call
  back : {s c x : Point} {l b k d : List ℕ} (m to : ℕ) → Derives X s c l b → call_enters X.program (kind_at X c) m ≡ true → Derives X (enter_point X c m) x k d → returns_at X.program x.node ≡ true → Leads X.edges c.node to
      → Derives X s (back_point X c x to) (to ∷ (k ++ l)) b

-- a fact is yielded: some derivation has it
abbrev pub Yields : Setting → Point → Point → Type 0
Yields X s x = (l : List ℕ) × (b : List ℕ) × Derives X s x l b

-- a run in this setting
abbrev pub RunIn : Setting → List ℕ → List Frame → ℕ → Type 0
RunIn X t fs q = Run X.program X.edges X.rule X.watch t fs q

-- some run leaves the watch bad
abbrev pub RunGoesBad : Setting → Type 0
RunGoesBad X = (t : List ℕ) × (fs : List Frame) × (q : ℕ) × RunIn X t fs q × (X.watch.bad q ≡ true)

-- some yielded fact is bad
abbrev pub FactIsBad : Setting → Type 0
FactIsBad X = (s : Point) × (x : Point) × Yields X s x × (X.watch.bad x.state ≡ true)

abbrev pub frame_of : Point → Frame
frame_of c = record { node = c.node; value = c.value }

-- facts sum up runs, at any length and call depth
pub record Summaries (X : Setting) : Type 0 where
  -- the trace of a derivation, its stretch with what stands below, is the trace of a run that ends at the fact
  pub reached : {s x : Point} {l b : List ℕ} → Derives X s x l b → (fs : List Frame) × RunIn X (l ++ b) (frame_of x ∷ fs) x.state
  -- each run's top frame and state are those of a yielded fact
  pub told : {t : List ℕ} {f : Frame} {fs : List Frame} {q : ℕ} → RunIn X t (f ∷ fs) q → (s : Point) × Yields X s (record { node = f.node; value = f.value; state = q })
  -- some run leaves the watch bad exactly if some yielded fact is bad
  pub bad_run : FactIsBad X → RunGoesBad X
  pub bad_fact : RunGoesBad X → FactIsBad X

abbrev pub FactsSumUpRuns : Type 0
FactsSumUpRuns = (X : Setting) → Summaries X
