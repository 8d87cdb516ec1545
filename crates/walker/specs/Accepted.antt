-- What an answer of replay says of runs.
use Rattle.std.specs.Prelude.{◌≡◌, ℕ, ◌+◌, ◌-◌, ◌<◌, ◌≤◌, List, reverse, length, take, slice_index_or}
use Rattle.model.specs.declared.Edge.{Edge}
use Rattle.model.specs.declared.Frame.{Frame}
use Rattle.model.specs.Access.{Rule}
use Rattle.model.specs.Agreement.{RunTrace}
use Rattle.model.specs.Models.{state_after}
use Rattle.model.specs.Program.{Program}
use Rattle.model.specs.Runs.{Run}
use Rattle.model.specs.Watches.{Watch}
use Rattle.recipe.specs.declared.grounds.Refusal.{Refusal}
use Rattle.recipe.specs.declared.grounds.Refusal.TheVariants.{NotAStep, StackFull}
use Rattle.walker.specs.Walking.{no_frame}
use Rattle.walker.specs.declared.stands.Stand.{Stand}

-- the frames of a stack, which has the bottom one first: the top one first
abbrev pub frames_in : List Frame → ℕ → List Frame
frames_in stack depth = reverse (take depth stack)

-- the list is the trace of a run that stands so, with its frames in the stack
pub record Stands (p : Program) (es : List Edge) (R : Rule) (W : Watch) (ns : List ℕ) (stack : List Frame) (s : Stand) : Type 0 where
  pub run : Run p es R W (reverse ns) (frames_in stack s.depth) s.state
  pub deep : s.depth ≤ length stack
  pub top : s.value ≡ (slice_index_or stack (s.depth - 1) no_frame).value
  -- the state is the watch's after the marks of the nodes
  pub state : s.state ≡ state_after p W (reverse ns)
  pub bad : s.bad ≡ W.bad s.state

-- the frames up to a depth of a stack, and a state of the watch, are where a run with this trace stands
abbrev pub StandsAt : Program → List Edge → Rule → Watch → List ℕ → List Frame → ℕ → ℕ → Type 0
StandsAt p es R W ns stack depth q = Run p es R W (reverse ns) (frames_in stack depth) q × (depth ≤ length stack)

-- the stack has the frames of a run with this trace in its first places
abbrev pub HoldsRun : Program → List Edge → Rule → Watch → List ℕ → List Frame → Type 0
HoldsRun p es R W ns stack = (depth : ℕ) × (q : ℕ) × StandsAt p es R W ns stack depth q

-- not a step at place i: with it the nodes are no trace of a run. Stack full at place i of the list: with it they are one, of a run with more frames than the stack has places. Either way the stack still has the run of the nodes before it, if there are any
abbrev pub Refuses : Program → List Edge → Rule → Watch → List ℕ → List Frame → Refusal → Type 0
Refuses p es R W ns stack (NotAStep i) = (0 < i → HoldsRun p es R W (take i ns) stack) × (RunTrace p es R W (take (i + 1) ns) → ⊥)
Refuses p es R W ns stack (StackFull i) =
    (i < length ns) × (0 < i → HoldsRun p es R W (take i ns) stack) × (fs : List Frame) × (q : ℕ) × Run p es R W (reverse (take (i + 1) ns)) fs q × (length stack < length fs)
Refuses p es R W ns stack _ = ⊥

-- enough stack: of each front of the list that is the trace of a run, the frames fit
abbrev pub Enough : Program → List Edge → Rule → Watch → List ℕ → ℕ → Type 0
Enough p es R W ns room = (k : ℕ) (fs : List Frame) (q : ℕ) → Run p es R W (reverse (take k ns)) fs q → length fs ≤ room
