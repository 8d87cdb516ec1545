-- What the record of a call that carries out requests says: the law, of the requests, the replies, the report and the tables that are left.
use Rattle.std.specs.Prelude.{◌≡◌, ℕ, ◌+◌, ◌<◌, ◌≤◌, ◌⊎◌, List, ◌++◌, length, take, Ok, Err, Result, IsPermutation, slice_index_or}
use Rattle.model.specs.declared.Edge.{Edge}
use Rattle.model.specs.declared.Fact.{Fact}
use Rattle.model.specs.declared.Point.{Point}
use Rattle.model.specs.declared.Verdict.{Verdict as Outcome}
use Rattle.model.specs.declared.Verdict.TheVariants.{Safe, Unsafe, Full, Unfinished}
use Rattle.model.specs.Facts.{Setting, Yields}
use Rattle.model.specs.Program.{counted}
use Rattle.model.specs.Searches.{HeldAt, BadTrace, facts_of}
use Rattle.model.specs.Tables.{capped}
use Rattle.recipe.specs.declared.grounds.Refusal.{Refusal}
use Rattle.recipe.specs.declared.grounds.Refusal.TheVariants.{LongTrace}
use Rattle.inquiry.specs.declared.reports.Dug.{Dug as Finished}
use Rattle.inquiry.specs.declared.reports.Report.{Report}
use Rattle.inquiry.specs.declared.requests.Reply.{Reply}
use Rattle.inquiry.specs.declared.requests.Reply.TheVariants.{Dug, Linked, Judged, Traced}
use Rattle.inquiry.specs.declared.requests.Request.{Request}
use Rattle.inquiry.specs.declared.requests.Request.TheVariants.{Dig, Link, Verdict, Trace}
use Rattle.inquiry.specs.Histories.{Opened, after, asked, accepted}
use Rattle.inquiry.specs.Grounds.{LinkAnswer, DigAnswer}
use Rattle.asking.specs.Law.{Law, Walks, IsRight, is_full, facts_after, finished_in, anew}

-- what places past the end stand for
abbrev pub no_reply : Result Reply Refusal
no_reply = Ok (Linked 0)

abbrev pub request_at : List Request → ℕ → Request
request_at rs i = slice_index_or rs i Verdict

abbrev pub reply_at : List (Result Reply Refusal) → ℕ → Result Reply Refusal
reply_at log i = slice_index_or log i no_reply

-- the links that were accepted among the first i requests, read off these and their replies
abbrev pub links_at : List Request → List (Result Reply Refusal) → ℕ → List Edge
links_at rs log i = accepted (take i rs) (take i log)

-- the recipe as it was linked when these had been made
abbrev pub linked_at : Opened → List Request → List (Result Reply Refusal) → ℕ → Setting
linked_at C rs log i = record { program = C.program; edges = counted C.program C.own ++ links_at rs log i; rule = C.rule; watch = C.watch }

-- a reply shows that a bad fact is held: unsafe, or a trace, written or too long
abbrev pub ShowsBad : Result Reply Refusal → Type 0
ShowsBad a = (a ≡ Ok (Judged Unsafe)) ⊎ (((n : ℕ) × (a ≡ Ok (Traced n))) ⊎ ((n : ℕ) × (a ≡ Err (LongTrace n))))

-- a trace that was given so much room is answered: with its length, and the output begins with it; or refused with its length, since it has no room or too many nodes
abbrev pub TraceAnswer : List ℕ → ℕ → List ℕ → Result Reply Refusal → Type 0
TraceAnswer t room output a =
    ((a ≡ Ok (Traced (length t))) × (length t ≤ room) × (take (length t) output ≡ t))
    ⊎ ((a ≡ Err (LongTrace (capped (length t)))) × ((room < length t) ⊎ (4294967295 ≤ length t)))

-- one list is shown from reply i on: the trace of a bad run of the recipe as it is linked at each later time, which a walker accepts; and each trace asked for then is this one
pub record ShownFrom (C : Opened) (rs : List Request) (log : List (Result Reply Refusal)) (output : List ℕ) (i : ℕ) (t : List ℕ) : Type 0 where
  pub bad : (j : ℕ) → i ≤ j → j ≤ length rs → BadTrace (linked_at C rs log j) t
  pub walks : (j : ℕ) → i ≤ j → j ≤ length rs → Walks (linked_at C rs log j) t
  pub traces : (j room : ℕ) → i ≤ j → j < length rs → request_at rs j ≡ Trace room → TraceAnswer t room output (reply_at log j)

-- the facts that are left in the table, so many: each is one that the recipe yields, as it is linked at the end, and none stands twice
pub record FactsLeft (X : Setting) (rows : List Fact) : Type 0 where
  pub yielded : (i : ℕ) (s x : Point) → HeldAt rows s x i → Yields X s x
  pub once : (i j : ℕ) (s x : Point) → HeldAt rows s x i → HeldAt rows s x j → i ≡ j

-- at safe none is missing, and they are, in some order, those of a fresh inquiry with the accepted links in any order
pub record AllFactsLeft (C : Opened) (X : Setting) (ls : List Edge) (rows : List Fact) : Type 0 where
  pub exact : (s x : Point) → Yields X s x → (i : ℕ) × HeldAt rows s x i
  pub fresh : (ms : List Edge) → IsPermutation ls ms → IsPermutation (facts_of rows) (facts_after C (anew C ms))

-- what the record says: the requests that were made, the replies, the table of facts and the output as they are left, and the report
pub record RecordTells (C : Opened) (rs : List Request) (log : List (Result Reply Refusal)) (facts : List Fact) (output : List ℕ) (report : Report) : Type 0 where
  -- each reply is the answer of its request after those before it, of which the law speaks
  pub answers : (i : ℕ) → i < length rs → reply_at log i ≡ asked C (take i rs) (request_at rs i)
  pub law : Law C
  -- a verdict, and that of the report, is right of the recipe as it was linked then
  pub right : (i : ℕ) (v : Outcome) → i < length rs → reply_at log i ≡ Ok (Judged v) → IsRight (linked_at C rs log i) C.places v
  pub reports : IsRight (linked_at C rs log (length rs)) C.places report.verdict
  -- once a bad fact was shown every verdict is unsafe, and one list is shown
  pub lasting : (i j : ℕ) (v : Outcome) → i ≤ j → j < length rs → ShowsBad (reply_at log i) → reply_at log j ≡ Ok (Judged v) → v ≡ Unsafe
  pub ends_bad : (i : ℕ) → i < length rs → ShowsBad (reply_at log i) → report.verdict ≡ Unsafe
  pub shown : (i : ℕ) → i < length rs → ShowsBad (reply_at log i) → (t : List ℕ) × ShownFrom C rs log output i t
  -- a dig of as many facts as there are places leaves nothing unfinished, however it goes on without an accepted link
  pub ending : (i j k : ℕ) → i < j → j < length rs → request_at rs i ≡ Dig k → C.places ≤ k → links_at rs log j ≡ links_at rs log i → reply_at log j ≡ Ok (Judged Unfinished) → ⊥
  pub ended : (i k : ℕ) → i < length rs → request_at rs i ≡ Dig k → C.places ≤ k → links_at rs log (length rs) ≡ links_at rs log i → report.verdict ≡ Unfinished → ⊥
  -- once a verdict was full, every place is in use
  pub full : (i : ℕ) → i < length rs → reply_at log i ≡ Ok (Judged Full) → report.held ≡ C.places
  pub ends_full : report.verdict ≡ Full → report.held ≡ C.places
  -- what digs and links were answered
  pub dug : (i k : ℕ) → i < length rs → request_at rs i ≡ Dig k → (d : Finished) × (reply_at log i ≡ Ok (Dug d)) × DigAnswer k (after C (take i rs)).search (after C (take (i + 1) rs)).search d
  pub linked : (i from to : ℕ) → i < length rs → request_at rs i ≡ Link from to
      → LinkAnswer C.program (linked_at C rs log i).edges (length C.own + length (links_at rs log i)) C.edge_places (is_full C (take i rs)) from to (reply_at log i)
  -- the report tells how many facts are held, and how many were finished since the last accepted link
  pub held : report.held ≡ length (facts_after C rs)
  pub worked : report.worked ≡ finished_in 0 (take (length rs) log)
  -- the facts left in the table, and those at safe
  pub left : FactsLeft (linked_at C rs log (length rs)) (take report.held facts)
  pub all_left : report.verdict ≡ Safe → AllFactsLeft C (linked_at C rs log (length rs)) (links_at rs log (length rs)) (take report.held facts)
