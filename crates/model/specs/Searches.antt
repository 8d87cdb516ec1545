-- What holds of an inquiry: each row is derived from rows before it, and one that is through holds exactly the facts that are yielded.
use Rattle.std.specs.Prelude.{◌≡◌, ℕ, ◌+◌, ◌<◌, ◌≤◌, true, false, List, ◌++◌, map, reverse, length, take, ◌≢◌, IsPermutation, slice_index_or}
use Rattle.model.specs.declared.Edge.{Edge}
use Rattle.model.specs.declared.Fact.{Fact}
use Rattle.model.specs.declared.Frame.{Frame}
use Rattle.model.specs.declared.Verdict.{Verdict}
use Rattle.model.specs.declared.Verdict.TheVariants.{Safe, Unsafe, Full, Unfinished}
use Rattle.model.specs.Access.{call_enters}
use Rattle.model.specs.Program.{is_entry_of, Leads}
use Rattle.model.specs.declared.Point.{Point}
use Rattle.model.specs.Facts.{Setting, Derives, Yields, RunIn, RunGoesBad, kind_at}
use Rattle.model.specs.Links.{with_edges, Among}
use Rattle.model.specs.Runs.{goes_on}
use Rattle.model.specs.Watches.{Watch}
use Rattle.model.specs.Tables.{start_of, end_of, row_at, capped, first_row, follow_row, enter_row, back_row, is_held, joins, Search, opened, pending, dug, any_bad, first_bad, verdict_of, tale_at}

-- a row is given by its rule from rows of the table, and names them as its sources
pub data DerivedFrom (X : Setting) (rows : List Fact) : Fact → Type 0 where
  by_first : (n : ℕ) → is_entry_of X.program 0 n ≡ true → DerivedFrom X rows (first_row X n)
  by_follow : (i m : ℕ) → i < length rows → goes_on X.rule (kind_at X (end_of (row_at rows i))) (row_at rows i).node (row_at rows i).value ≡ true → Leads X.edges (row_at rows i).node m
      → DerivedFrom X rows (follow_row X i (row_at rows i) m)
  by_enter : (i m : ℕ) → i < length rows → call_enters X.program (kind_at X (end_of (row_at rows i))) m ≡ true
      → DerivedFrom X rows (enter_row X i (row_at rows i) m)
  by_back : (i j m : ℕ) → i < length rows → j < length rows → joins X (row_at rows i) (row_at rows j) ≡ true → Leads X.edges (row_at rows i).node m
      → DerivedFrom X rows (back_row X i (row_at rows i) j (row_at rows j) m)

-- what an opening makes and each dig keeps
pub record Sound (X : Setting) (places : ℕ) (s : Search) : Type 0 where
  -- each row is derived from rows before it
  pub derived : (i : ℕ) → i < length s.rows → DerivedFrom X (take i s.rows) (row_at s.rows i)
  -- no fact is held twice
  pub once : (i : ℕ) → i < length s.rows → is_held (take i s.rows) (row_at s.rows i) ≡ false
  -- the rows have places, and the worked ones are among them
  pub placed : length s.rows ≤ places
  pub some : s.worked ≤ length s.rows
  -- what the worked rows give is held, unless the table is full
  pub closed : s.full ≡ false → (f : Fact) → DerivedFrom X (take s.worked s.rows) f → is_held s.rows f ≡ true
  -- full: every place is in use, and the rows give a fact that is not held
  pub beyond : s.full ≡ true → (length s.rows ≡ places) × ((f : Fact) × DerivedFrom X s.rows f × (is_held s.rows f ≡ false))

-- a fact is held, at place i
abbrev pub HeldAt : List Fact → Point → Point → ℕ → Type 0
HeldAt rows s x i = (i < length rows) × (start_of (row_at rows i) ≡ s) × (end_of (row_at rows i) ≡ x)

-- every fact is worked, and the table is not full
abbrev pub Through : Search → Type 0
Through s = (s.full ≡ false) × (length s.rows ≤ s.worked)

-- the fact at place i of a list of facts
abbrev pub fact_in : List (Point × Point) → ℕ → Point × Point
fact_in fs i = slice_index_or fs i (record { node = 0; value = 0; state = 0 }, record { node = 0; value = 0; state = 0 })

-- the facts of a list are yielded, and no two of them are the same
pub record Different (X : Setting) (fs : List (Point × Point)) : Type 0 where
  pub yielded : (i : ℕ) → i < length fs → Yields X (fact_in fs i).0 (fact_in fs i).1
  pub apart : (i j : ℕ) → i < j → j < length fs → fact_in fs i ≢ fact_in fs j

-- what an inquiry tells of the setting
pub record Told (X : Setting) (places : ℕ) (s : Search) : Type 0 where
  -- each row's rule and sources give it, and the sources stand before it
  pub derived : (i : ℕ) → i < length s.rows → DerivedFrom X (take i s.rows) (row_at s.rows i)
  -- each held fact is yielded, by a derivation with the row's stretch; the row has the stretch's length, capped
  pub yielded : (i : ℕ) → i < length s.rows → Derives X (start_of (row_at s.rows i)) (end_of (row_at s.rows i)) (tale_at s.rows i).stretch (tale_at s.rows i).below
  pub spans : (i : ℕ) → i < length s.rows → (row_at s.rows i).span ≡ capped (length (tale_at s.rows i).stretch)
  -- none is held twice
  pub once : (i j : ℕ) (a x : Point) → HeldAt s.rows a x i → HeldAt s.rows a x j → i ≡ j
  -- one that is through holds every yielded fact
  pub exact : Through s → (a x : Point) → Yields X a x → (i : ℕ) × HeldAt s.rows a x i
  -- a bad fact is held only if some run goes bad, and if it is through and some run goes bad, then one is held
  pub bad_run : (i : ℕ) → i < length s.rows → X.watch.bad (row_at s.rows i).state ≡ true → RunGoesBad X
  pub bad_held : Through s → RunGoesBad X → (i : ℕ) × (i < length s.rows) × (X.watch.bad (row_at s.rows i).state ≡ true)
  -- full only if every place is in use and more facts are yielded than there are places
  pub beyond : s.full ≡ true → (length s.rows ≡ places) × ((fs : List (Point × Point)) × (places < length fs) × Different X fs)

-- the trace of the row at place i: what stands below, then its stretch
abbrev pub trace_at : List Fact → ℕ → List ℕ
trace_at rows i = reverse ((tale_at rows i).stretch ++ (tale_at rows i).below)

-- the trace of the first bad row, where a row is bad
abbrev pub first_trace : Watch → List Fact → List ℕ
first_trace W rows = trace_at rows (first_bad W rows)

-- a list of nodes is the trace of a run that leaves the watch bad
abbrev pub BadTrace : Setting → List ℕ → Type 0
BadTrace X ns = (fs : List Frame) × (q : ℕ) × RunIn X (reverse ns) fs q × (X.watch.bad q ≡ true)

-- the facts of a table's rows, in their order
abbrev pub facts_of : List Fact → List (Point × Point)
facts_of rows = map (λ r. (start_of r, end_of r)) rows

-- all facts are unworked again
abbrev pub unworked : Search → Search
unworked s = record { rows = s.rows; worked = 0; full = s.full }

-- what a verdict says, of an inquiry with so many places
pub record Means (X : Setting) (places : ℕ) (s : Search) (v : Verdict) : Type 0 where
  -- safe: no run leaves the watch bad, and each yielded fact is held
  pub safe : v ≡ Safe → RunGoesBad X → ⊥
  pub exact : v ≡ Safe → (a x : Point) → Yields X a x → (i : ℕ) × HeldAt s.rows a x i
  -- unsafe: some run does
  pub unsafe : v ≡ Unsafe → RunGoesBad X
  -- full: every place is in use, and more facts are yielded than there are places
  pub full : v ≡ Full → (length s.rows ≡ places) × ((fs : List (Point × Point)) × (places < length fs) × Different X fs)

-- an opening is sound, digging keeps that, and what is sound tells of the setting; so a verdict is right, and a dig of as many facts as there are places comes to one
pub record SearchLaws : Type 0 where
  pub opens : (X : Setting) (places : ℕ) → Sound X places (opened X places)
  pub digs : (X : Setting) (places k : ℕ) (s : Search) → Sound X places s → Sound X places (dug X places k s)
  pub tells : (X : Setting) (places : ℕ) (s : Search) → Sound X places s → Told X places s
  pub judges : (X : Setting) (places : ℕ) (s : Search) → Sound X places s → Means X places s (verdict_of X.watch s)
  pub ends : (X : Setting) (places k : ℕ) (s : Search) → Sound X places s → places ≤ k → verdict_of X.watch (dug X places k s) ≢ Unfinished
  -- such a dig leaves nothing to work, and where nothing is to be worked a dig changes nothing
  pub works_all : (X : Setting) (places k : ℕ) (s : Search) → Sound X places s → places ≤ k → pending (dug X places k s) ≡ false
  pub rests : (X : Setting) (places k : ℕ) (s : Search) → pending s ≡ false → dug X places k s ≡ s
  -- a dig leaves the worked facts worked, and finishes no more than it is allowed; it finishes as many if there is still something to work
  pub keeps : (X : Setting) (places k : ℕ) (s : Search) → s.worked ≤ (dug X places k s).worked
  pub allows : (X : Setting) (places k : ℕ) (s : Search) → (dug X places k s).worked ≤ s.worked + k
  pub finishes : (X : Setting) (places k : ℕ) (s : Search) → pending (dug X places k s) ≡ true → (dug X places k s).worked ≡ s.worked + k
  -- with more edges a search stays sound, if it is not full and all its facts are to be worked again
  pub links : (X : Setting) (es : List Edge) (places : ℕ) (s : Search) → Sound X places s → s.full ≡ false → Among X.edges es → Sound (with_edges X es) places (unworked s)
  -- where a row is bad, the trace of the first one is that of a bad run
  pub shows : (X : Setting) (places : ℕ) (s : Search) → Sound X places s → any_bad X.watch s.rows ≡ true → BadTrace X (first_trace X.watch s.rows)
  -- a dig only adds rows, and rows that are added change neither that a row is bad nor that trace
  pub adds : (X : Setting) (places k : ℕ) (s : Search) → (more : List Fact) × ((dug X places k s).rows ≡ s.rows ++ more)
  pub stays : (W : Watch) (rows more : List Fact) → any_bad W rows ≡ true → (any_bad W (rows ++ more) ≡ true) × (first_trace W (rows ++ more) ≡ first_trace W rows)
  -- where a search that is through had room for all that is yielded, none with the same edges or fewer is full; and two that are through with the same edges hold the same facts
  pub fits : (X : Setting) (es : List Edge) (places : ℕ) (s t : Search) → Sound X places s → Through s → Sound (with_edges X es) places t → Among es X.edges → t.full ≡ false
  pub agrees : (X : Setting) (es : List Edge) (places : ℕ) (s t : Search) → Sound X places s → Through s → Sound (with_edges X es) places t → Through t → Among es X.edges → Among X.edges es → IsPermutation (facts_of s.rows) (facts_of t.rows)
