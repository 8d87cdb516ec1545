-- What the calls of an inquiry answer, and when they are refused.
use Rattle.std.specs.Prelude.{ℕ, ◌-◌, Bool, cond, ◌&&◌, List, ◌++◌, length, take, drop, Ok, Err, Result, ◌==◌, nat_le, nat_lt}
use Rattle.model.specs.declared.Edge.{Edge}
use Rattle.model.specs.Facts.{Setting}
use Rattle.model.specs.Links.{is_listed}
use Rattle.model.specs.Program.{Program, is_edge, counted}
use Rattle.model.specs.Searches.{first_trace}
use Rattle.model.specs.Tables.{capped, Search, any_bad, verdict_of}
use Rattle.model.specs.Watches.{Watch}
use Rattle.recipe.specs.declared.grounds.Refusal.{Refusal}
use Rattle.recipe.specs.declared.grounds.Refusal.TheVariants.{TooMany, OtherCounts, UnfitTable, NotAnEdge, EdgeHeld, EdgesFull, InquiryFull, NotUnsafe, LongTrace}
use Rattle.inquiry.specs.declared.Counts.{Counts}
use Rattle.inquiry.specs.Inquiries.{state_of}
use Rattle.inquiry.specs.declared.Inquiry.{Inquiry}
use Rattle.inquiry.specs.declared.Opening.{Opening}
use Rattle.inquiry.specs.declared.reports.Dug.{Dug}
use Rattle.inquiry.specs.declared.reports.Report.{Report}

-- whether a call is allowed, and why it is refused if it is not
abbrev pub Allowed : Type 0
Allowed = Result (Unit {0}) Refusal

-- what a call answers: what it gives, or why it is refused
abbrev pub answered : {A : Type 0} → Allowed → A → Result A Refusal
answered (Ok u) a = Ok a
answered (Err e) a = Err e

-- what there is then: a new state, or, where the call is refused, the old one
abbrev pub unless : {A : Type 0} → Allowed → A → A → A
unless (Ok u) new old = new
unless (Err e) new old = old

-- at most 65,536 values and states
abbrev pub counts_fit : ℕ → ℕ → Bool
counts_fit values states = nat_le values 65536 && nat_le states 65536

-- the edge table has room for the recipe's own edges, and at most 4,096 places; the fact table has at most 65,536
abbrev pub tables_fit : ℕ → ℕ → ℕ → Bool
tables_fit own facts edges = nat_le own edges && (nat_le edges 4096 && nat_le facts 65536)

-- whether an inquiry can be opened over a recipe with so many edges, and tables of so many places: the numbers of values and states come first
abbrev pub fit_answer : Setting → ℕ → ℕ → ℕ → Allowed
fit_answer X own facts edges = cond (counts_fit X.rule.values X.watch.states) (cond (tables_fit own facts edges) (Ok tt) (Err UnfitTable)) (Err TooMany)

-- the edges of a table that an inquiry has in use
abbrev pub in_use : Inquiry → List Edge → List Edge
in_use i edges = take i.opening.used edges

-- what there is of: nodes, values, states and edge places
abbrev pub counts_of : Setting → ℕ → Counts
counts_of X edges = record { nodes = length X.program.nodes; values = X.rule.values; states = X.watch.states; places = edges }

-- two counts are the same
abbrev pub same_counts : Counts → Counts → Bool
same_counts a b = a.nodes == b.nodes && (a.values == b.values && (a.states == b.states && a.places == b.places))

-- a void inquiry answers every call as its opening was answered
abbrev pub void_or : Allowed → Allowed → Allowed
void_or (Err e) other = Err e
void_or (Ok u) other = other

-- whether a dig is allowed: the counts are not too great, and those of the opening
abbrev pub dig_answer : Inquiry → Setting → ℕ → Allowed
dig_answer i X edges = void_or i.fits (cond (counts_fit X.rule.values X.watch.states) (cond (same_counts (counts_of X edges) i.opening.counts) (Ok tt) (Err OtherCounts)) (Err TooMany))

-- a dig answers how many facts it finished, and how many are held
abbrev pub dug_from : Search → Search → Dug
dug_from before after = record { finished = after.worked - before.worked; held = length after.rows }

-- whether a link is allowed among the edges in use of a table with so many places: it is an edge by the rules, none that counts, a place is free, and the inquiry is not full
abbrev pub link_allowed : Program → List Edge → ℕ → Bool → Edge → Allowed
link_allowed p used places full e =
    cond (is_edge p e) (cond (is_listed (counted p used) e) (Err EdgeHeld) (cond (nat_lt (length used) places) (cond full (Err InquiryFull) (Ok tt)) (Err EdgesFull))) (Err NotAnEdge)

-- a link is refused first as a dig is
abbrev pub link_answer : Inquiry → Setting → List Edge → Bool → Edge → Allowed
link_answer i X edges full e = void_or (dig_answer i X (length edges)) (link_allowed X.program (in_use i edges) (length edges) full e)

-- how long the trace of the first bad fact is, capped
abbrev pub trace_length : Watch → Search → ℕ
trace_length W s = capped (length (first_trace W s.rows))

-- whether that trace is written to an output of so many places: a fact is bad, and the output is long enough for it and its length is not the greatest that is told
abbrev pub trace_allowed : Watch → Search → ℕ → Allowed
trace_allowed W s room = cond (any_bad W s.rows) (cond (nat_le (trace_length W s) room && nat_lt (trace_length W s) 4294967295) (Ok tt) (Err (LongTrace (trace_length W s)))) (Err NotUnsafe)

-- a void inquiry refuses a trace as it does every call
abbrev pub trace_answer : Inquiry → Watch → ℕ → Allowed
trace_answer i W room = void_or i.fits (trace_allowed W (state_of i) room)

-- an output with the trace at its beginning
abbrev pub trace_output : Watch → Search → List ℕ → List ℕ
trace_output W s out = first_trace W s.rows ++ drop (length (first_trace W s.rows)) out

-- a closed inquiry answers its verdict, and how many facts are held and worked
abbrev pub report_of : Watch → Search → Report
report_of W s = record { verdict = verdict_of W s; held = length s.rows; worked = s.worked }

-- what an inquiry is opened with; a void one has no edge in use
abbrev pub opening_of : Allowed → Setting → ℕ → ℕ → Opening
opening_of fits X own edges = record { counts = counts_of X edges; used = unless fits own 0 }
