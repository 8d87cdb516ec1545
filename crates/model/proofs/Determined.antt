-- A run's trace determines the rest of the run: its frames and the watch's state are functions of the trace.
use Rattle.std.proofs.Common.{◌≡◌, ℕ, true, ltb, List, [], ◌∷◌, length, sym, refl, ap, ◌∙◌}
use Rattle.std.proofs.lemmas.Bool.{false≢true, and_parts}
use Rattle.model.specs.declared.Edge.{Edge}
use Rattle.model.specs.declared.Frame.{Frame}
use Rattle.model.specs.declared.Kind.{Kind}
use Rattle.model.specs.declared.Kind.TheVariants.{Nop, Call, Check, Return}
use Rattle.model.specs.Access.{Rule, call_enters}
use Rattle.model.specs.Models.{state_after}
use Rattle.model.specs.Program.{Program, node_at, is_return}
use Rattle.model.specs.Runs.{Run, start, pass, enter, back, reads, goes_on, FollowsFromTrace}
use Rattle.model.specs.Watches.{Watch}

-- the frames after one more node, where the top frame is at a node of this kind
abbrev pub frames_after : Rule → Kind → Frame → List Frame → ℕ → List Frame
frames_after R Nop f fs m = record { node = m; value = f.value } ∷ fs
frames_after R (Call callee grant accept privileged) f fs m = record { node = m; value = R.enter f.value f.node m } ∷ f ∷ fs
frames_after R (Check required) f fs m = record { node = m; value = f.value } ∷ fs
frames_after R Return f [] m = []
frames_after R Return f (g ∷ gs) m = record { node = m; value = R.back g.value g.node f.value f.node } ∷ gs

-- the frames after one more node: the first node makes the first frame
abbrev pub next_frames : Program → Rule → List Frame → ℕ → List Frame
next_frames p R [] m = record { node = m; value = R.first m } ∷ []
next_frames p R (f ∷ fs) m = frames_after R (node_at p f.node).kind f fs m

-- the frames that the nodes of a trace lead to, the last node first
abbrev pub frames_of : Program → Rule → List ℕ → List Frame
frames_of p R [] = []
frames_of p R (m ∷ t) = next_frames p R (frames_of p R t) m

-- what a node of each kind may do fits only one of the ways on
pub goes_on_frames : (R : Rule) (k : Kind) (n v : ℕ) (fs : List Frame) (m : ℕ) → goes_on R k n v ≡ true → frames_after R k (record { node = n; value = v }) fs m ≡ record { node = m; value = v } ∷ fs
goes_on_frames R Nop n v fs m h = refl
goes_on_frames R (Call callee grant accept privileged) n v fs m h = absurd (false≢true h)
goes_on_frames R (Check required) n v fs m h = refl
goes_on_frames R Return n v fs m h = absurd (false≢true h)

pub enters_frames : (p : Program) (R : Rule) (k : Kind) (n v : ℕ) (fs : List Frame) (m : ℕ) → call_enters p k m ≡ true
    → frames_after R k (record { node = n; value = v }) fs m ≡ record { node = m; value = R.enter v n m } ∷ record { node = n; value = v } ∷ fs
enters_frames p R Nop n v fs m h = absurd (false≢true h)
enters_frames p R (Call callee grant accept privileged) n v fs m h = refl
enters_frames p R (Check required) n v fs m h = absurd (false≢true h)
enters_frames p R Return n v fs m h = absurd (false≢true h)

pub returns_frames : (R : Rule) (k : Kind) (x u n v : ℕ) (fs : List Frame) (m : ℕ) → is_return k ≡ true
    → frames_after R k (record { node = x; value = u }) (record { node = n; value = v } ∷ fs) m ≡ record { node = m; value = R.back v n u x } ∷ fs
returns_frames R Nop x u n v fs m h = absurd (false≢true h)
returns_frames R (Call callee grant accept privileged) x u n v fs m h = absurd (false≢true h)
returns_frames R (Check required) x u n v fs m h = absurd (false≢true h)
returns_frames R Return x u n v fs m h = refl

module _ (p : Program) (es : List Edge) (R : Rule) (W : Watch) where
  -- a run has the frames and the state that its trace leads to
  pub run_frames : {t : List ℕ} {fs : List Frame} {q : ℕ} → Run p es R W t fs q → frames_of p R t ≡ fs
  run_frames (start a) = refl
  run_frames (pass {n = n} {v = v} {fs = fs} m r g l) = ap (λ gs. next_frames p R gs m) (run_frames r) ∙ goes_on_frames R (node_at p n).kind n v fs m g
  run_frames (enter {n = n} {v = v} {fs = fs} m r g) = ap (λ gs. next_frames p R gs m) (run_frames r) ∙ enters_frames p R (node_at p n).kind n v fs m g
  run_frames (back {x = x} {u = u} {n = n} {v = v} {fs = fs} m r a b l) =
      ap (λ gs. next_frames p R gs m) (run_frames r) ∙ returns_frames R (node_at p x).kind x u n v fs m (and_parts (ltb x (length p.nodes)) (is_return (node_at p x).kind) a).1

  pub run_state : {t : List ℕ} {fs : List Frame} {q : ℕ} → Run p es R W t fs q → state_after p W t ≡ q
  run_state (start a) = refl
  run_state (pass m r g l) = ap (λ s. W.step s (reads p m)) (run_state r)
  run_state (enter m r g) = ap (λ s. W.step s (reads p m)) (run_state r)
  run_state (back m r a b l) = ap (λ s. W.step s (reads p m)) (run_state r)

pub follows_from_trace : FollowsFromTrace
follows_from_trace p es R W t fs gs q r a b =
    (sym (run_frames p es R W a) ∙ run_frames p es R W b, sym (run_state p es R W a) ∙ run_state p es R W b)
