-- Runs: how control moves through a program under a rule and a watch, at any length and call depth.
use Rattle.std.specs.Prelude.{◌≡◌, ℕ, Bool, true, false, ◌&&◌, List, [], ◌∷◌, length, nat_lt}
use Rattle.model.specs.declared.Edge.{Edge}
use Rattle.model.specs.declared.Frame.{Frame}
use Rattle.model.specs.declared.Kind.{Kind}
use Rattle.model.specs.declared.Kind.TheVariants.{Nop, Call, Check}
use Rattle.model.specs.Access.{Rule, call_enters}
use Rattle.model.specs.Program.{Program, node_at, is_return, is_entry_of, Leads}
use Rattle.model.specs.Watches.{Watch}

-- what the watch reads where a run comes to a node: the node's mark
abbrev pub reads : Program → ℕ → ℕ
reads p n = (node_at p n).mark

abbrev pub is_call : Kind → Bool
is_call (Call callee grant accept privileged) = true
is_call _ = false

-- whether a run at node n with value v may follow an edge: at a nop, and at a check that lets it through
abbrev pub goes_on : Rule → Kind → ℕ → ℕ → Bool
goes_on R Nop n v = true
goes_on R (Check required) n v = R.pass v n
goes_on R _ n v = false

-- n is a node, and a return
abbrev pub returns_at : Program → ℕ → Bool
returns_at p n = nat_lt n (length p.nodes) && is_return (node_at p n).kind

-- a run of a program with these edges: the nodes that it came to, the last one first; its frames, the top one first; and the watch's state
pub data Run (p : Program) (es : List Edge) (R : Rule) (W : Watch) : List ℕ → List Frame → ℕ → Type 0 where
  -- it begins at an entry of main
  start : {n : ℕ} → is_entry_of p 0 n ≡ true → Run p es R W (n ∷ []) (record { node = n; value = R.first n } ∷ []) (W.step W.start (reads p n))
  -- where it may go on, along an edge, the value staying
  pass : {t : List ℕ} {n v : ℕ} {fs : List Frame} {q : ℕ} (m : ℕ) → Run p es R W t (record { node = n; value = v } ∷ fs) q → goes_on R (node_at p n).kind n v ≡ true → Leads es n m
      → Run p es R W (m ∷ t) (record { node = m; value = v } ∷ fs) (W.step q (reads p m))
  -- at a call, into the callee: an entry of it comes on top, and the calling frame waits below
  enter : {t : List ℕ} {n v : ℕ} {fs : List Frame} {q : ℕ} (m : ℕ) → Run p es R W t (record { node = n; value = v } ∷ fs) q → call_enters p (node_at p n).kind m ≡ true
      → Run p es R W (m ∷ t) (record { node = m; value = R.enter v n m } ∷ record { node = n; value = v } ∷ fs) (W.step q (reads p m))
  -- at a return, out of the callee: its frame goes, and the calling one moves on along an edge, with what back answers
  back : {t : List ℕ} {x u n v : ℕ} {fs : List Frame} {q : ℕ} (m : ℕ) → Run p es R W t (record { node = x; value = u } ∷ record { node = n; value = v } ∷ fs) q → returns_at p x ≡ true → is_call (node_at p n).kind ≡ true → Leads es n m
      → Run p es R W (m ∷ t) (record { node = m; value = R.back v n u x } ∷ fs) (W.step q (reads p m))

-- two runs with one trace have the same frames and the same state
abbrev pub FollowsFromTrace : Type 0
FollowsFromTrace =
    (p : Program) (es : List Edge) (R : Rule) (W : Watch) (t : List ℕ) (fs gs : List Frame) (q r : ℕ) → Run p es R W t fs q → Run p es R W t gs r → (fs ≡ gs) × (q ≡ r)
