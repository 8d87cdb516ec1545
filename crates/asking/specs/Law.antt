-- The law of an inquiry: what its answers say of runs and of yielded facts, whatever was asked of it before, refused requests included.
use Rattle.std.specs.Prelude.{◌≡◌, ℕ, ◌+◌, ◌<◌, ◌≤◌, Bool, true, false, ◌⊎◌, List, [], ◌∷◌, ◌++◌, map, length, drop, Ok, Err, Result, IsPermutation}
use Rattle.model.specs.declared.Edge.{Edge}
use Rattle.model.specs.declared.Frame.{Frame}
use Rattle.model.specs.declared.Point.{Point}
use Rattle.model.specs.declared.Verdict.{Verdict as Outcome}
use Rattle.model.specs.declared.Verdict.TheVariants.{Safe, Unsafe, Full, Unfinished}
use Rattle.model.specs.Facts.{Setting, Yields, RunGoesBad}
use Rattle.model.specs.Lawful.{Lawful}
use Rattle.model.specs.Links.{Among}
use Rattle.model.specs.Program.{counted}
use Rattle.model.specs.Searches.{HeldAt, Different, BadTrace, first_trace, facts_of}
use Rattle.model.specs.Tables.{capped, row_at}
use Rattle.recipe.specs.declared.grounds.Refusal.{Refusal}
use Rattle.recipe.specs.declared.grounds.Refusal.TheVariants.{NotUnsafe, LongTrace}
use Rattle.walker.specs.declared.stands.Stand.{Stand}
use Rattle.walker.specs.Accepted.{Enough}
use Rattle.walker.specs.Walking.{replayed}
use Rattle.inquiry.specs.Grounds.{LinkAnswer, DigAnswer}
use Rattle.inquiry.specs.declared.reports.Dug.{Dug as Finished}
use Rattle.inquiry.specs.declared.requests.Reply.{Reply}
use Rattle.inquiry.specs.declared.requests.Reply.TheVariants.{Dug, Linked, Judged, Traced}
use Rattle.inquiry.specs.declared.requests.Request.{Request}
use Rattle.inquiry.specs.declared.requests.Request.TheVariants.{Dig, Link, Verdict, Trace}
use Rattle.inquiry.specs.Histories.{Opened, output_by, after, asked, replies, links, linked_recipe}

-- a request for the verdict is answered so
abbrev pub Says : Opened → List Request → Outcome → Type 0
Says C rs v = asked C rs Verdict ≡ Ok (Judged v)

-- whether a new fact has found no place
abbrev pub is_full : Opened → List Request → Bool
is_full C rs = (after C rs).search.full

-- the facts held after some requests
abbrev pub facts_after : Opened → List Request → List (Point × Point)
facts_after C rs = facts_of (after C rs).search.rows

-- a fact is held after some requests, at place i
abbrev pub HeldAfter : Opened → List Request → Point → Point → ℕ → Type 0
HeldAfter C rs s x i = HeldAt (after C rs).search.rows s x i

-- how many facts were finished since the last accepted link, read off replies: n before them
abbrev pub finished_by : ℕ → Result Reply Refusal → ℕ
finished_by n (Ok (Dug d)) = n + d.finished
finished_by n (Ok (Linked edges)) = 0
finished_by n _ = n

unfoldable pub finished_in : ℕ → List (Result Reply Refusal) → ℕ
finished_in n [] = n
finished_in n (a ∷ answers) = finished_in (finished_by n a) answers

-- a verdict is right of a setting, for a table of so many places
pub record IsRight (X : Setting) (places : ℕ) (v : Outcome) : Type 0 where
  -- safe or unsafe: safe where no run leaves the watch bad, and only there
  pub safe : v ≡ Safe → RunGoesBad X → ⊥
  pub unsafe : v ≡ Unsafe → RunGoesBad X
  -- full: it yields more facts than places
  pub full : v ≡ Full → (fs : List (Point × Point)) × (places < length fs) × Different X fs

-- a walker accepts a list of nodes as a bad run, over any list of the same edges and any stack that is long enough
abbrev pub Walks : Setting → List ℕ → Type 0
Walks X t =
    (es : List Edge) (stack : List Frame) → Among es X.edges → Among X.edges es → Enough X.program es X.rule X.watch t (length stack)
    → (s : Stand) × ((replayed X.program es X.rule X.watch t stack).at ≡ Ok s) × (s.bad ≡ true)

-- a trace is written that was given so much room: it fits, its length is told, and the rest of the output is as it was; or it does not fit, or has 4,294,967,295 nodes or more, and it is refused with its length, capped, and nothing is written
abbrev pub Written : List ℕ → ℕ → Result Reply Refusal → List ℕ → List ℕ → Type 0
Written t room reply before later =
    ((reply ≡ Ok (Traced (length t))) × (length t ≤ room) × (length t < 4294967295) × (later ≡ t ++ drop (length t) before))
    ⊎ ((reply ≡ Err (LongTrace (capped (length t)))) × ((room < length t) ⊎ (4294967295 ≤ length t)) × (later ≡ before))

-- one list of nodes is shown from some requests on: it is the trace of the first bad fact and of a bad run, a walker accepts it, and whenever a trace is asked for, with whatever room and output, this one is written, or refused with its length
pub record Shown (C : Opened) (rs : List Request) (t : List ℕ) : Type 0 where
  pub first : (ss : List Request) → first_trace C.watch (after C (rs ++ ss)).search.rows ≡ t
  pub bad : (ss : List Request) → BadTrace (linked_recipe C (rs ++ ss)) t
  pub walks : (ss : List Request) → Walks (linked_recipe C (rs ++ ss)) t
  pub written : (ss : List Request) (room : ℕ) (output : List ℕ) → Written t room (asked C (rs ++ ss) (Trace room)) output (output_by C (after C (rs ++ ss)) (Trace room) output)

-- links, one after another, and then a dig of as many facts as the table has places
abbrev pub anew : Opened → List Edge → List Request
anew C ls = map (λ e. Link e.from e.to) ls ++ Dig C.places ∷ []

pub record Law (C : Opened) : Type 0 where
  -- the record has the answer of each request after those before it
  pub recorded : (rs : List Request) (r : Request) → replies C (rs ++ r ∷ []) ≡ replies C rs ++ asked C rs r ∷ []
  -- the edges that count of the edge table are those of the linked recipe; where its own are lawful, all count that are in use, and these are lawful too
  pub table : (rs : List Request) → Among (counted C.program (after C rs).edges) (linked_recipe C rs).edges × Among (linked_recipe C rs).edges (counted C.program (after C rs).edges)
  pub lawful : (rs : List Request) → Lawful C.program C.own → C.edge_places ≤ 4096 → Lawful C.program (after C rs).edges
  -- a request that is refused changes nothing, nor does one for the verdict or a trace
  pub refused : (rs : List Request) (r : Request) (why : Refusal) → asked C rs r ≡ Err why → after C (rs ++ r ∷ []) ≡ after C rs
  pub judging : (rs : List Request) → after C (rs ++ Verdict ∷ []) ≡ after C rs
  pub tracing : (rs : List Request) (room : ℕ) → after C (rs ++ Trace room ∷ []) ≡ after C rs
  -- digs in pieces come to what one dig comes to
  pub pieces : (rs : List Request) (j k : ℕ) → after C (rs ++ Dig j ∷ Dig k ∷ []) ≡ after C (rs ++ Dig (j + k) ∷ [])
  -- what digs and links are answered
  pub dug : (rs : List Request) (k : ℕ) → (d : Finished) × (asked C rs (Dig k) ≡ Ok (Dug d)) × DigAnswer k (after C rs).search (after C (rs ++ Dig k ∷ [])).search d
  pub linked : (rs : List Request) (from to : ℕ) → LinkAnswer C.program (linked_recipe C rs).edges (length C.own + length (links C rs)) C.edge_places (is_full C rs) from to (asked C rs (Link from to))
  -- as many facts are worked as were finished since the last accepted link
  pub worked : (rs : List Request) → (after C rs).search.worked ≡ finished_in 0 (replies C rs)
  -- a verdict is right of the linked recipe
  pub right : (rs : List Request) (v : Outcome) → Says C rs v → IsRight (linked_recipe C rs) C.places v
  -- it is unsafe as soon as a bad fact is held, and only then
  pub bad_held : (rs : List Request) (i : ℕ) → i < length (after C rs).search.rows → C.watch.bad (row_at (after C rs).search.rows i).state ≡ true → Says C rs Unsafe
  pub held_bad : (rs : List Request) → Says C rs Unsafe → (i : ℕ) × (i < length (after C rs).search.rows) × (C.watch.bad (row_at (after C rs).search.rows i).state ≡ true)
  -- one that is unsafe stays so
  pub lasting : (rs ss : List Request) → Says C rs Unsafe → Says C (rs ++ ss) Unsafe
  -- a trace is refused for want of an unsafe verdict, or the verdict is unsafe
  pub wanting : (rs : List Request) (room : ℕ) → (asked C rs (Trace room) ≡ Err NotUnsafe) ⊎ Says C rs Unsafe
  -- and then one list is fixed, which each trace asked for writes, or is refused with its length
  pub shown : (rs : List Request) → Says C rs Unsafe → (t : List ℕ) × Shown C rs t
  -- a dig of as many facts as there are places leaves nothing unfinished, however it goes on without an accepted link
  pub ending : (rs ss : List Request) (k : ℕ) → C.places ≤ k → links C (rs ++ Dig k ∷ ss) ≡ links C rs → Says C (rs ++ Dig k ∷ ss) Unfinished → ⊥
  -- a full inquiry stays full, and has a fact at each place; the verdict is full only there
  pub filled : (rs ss : List Request) → is_full C rs ≡ true → (is_full C (rs ++ ss) ≡ true) × (length (facts_after C (rs ++ ss)) ≡ C.places)
  pub full : (rs : List Request) → Says C rs Full → is_full C rs ≡ true
  -- each fact held is one that the linked recipe yields, and none is held twice; at safe all that it yields are held
  pub yielded : (rs : List Request) (i : ℕ) (s x : Point) → HeldAfter C rs s x i → Yields (linked_recipe C rs) s x
  pub once : (rs : List Request) (i j : ℕ) (s x : Point) → HeldAfter C rs s x i → HeldAfter C rs s x j → i ≡ j
  pub held : (rs : List Request) → Says C rs Safe → (s x : Point) → Yields (linked_recipe C rs) s x → (i : ℕ) × HeldAfter C rs s x i
  -- and they are, in some order, those of a fresh inquiry: the accepted links in any order, all of them accepted again, and then a dig of as many facts as there are places
  pub fresh : (rs : List Request) (ls : List Edge) → Says C rs Safe → IsPermutation (links C rs) ls → (links C (anew C ls) ≡ ls) × Says C (anew C ls) Safe × IsPermutation (facts_after C rs) (facts_after C (anew C ls))
