-- One step of the walker: where it leads from the frames in a stack, bottom first, and what the stack holds then.
use Rattle.std.specs.Prelude.{ℕ, ◌+◌, ◌-◌, Bool, cond, ◌&&◌, List, [], ◌∷◌, length, get_or, Some, None, Ok, Err, Option, Result, ◌==◌, nat_le, nat_lt, slice_index_or, slice_set}
use Rattle.std.specs.List.{list_any}
use Rattle.model.specs.declared.Edge.{Edge}
use Rattle.model.specs.declared.Frame.{Frame}
use Rattle.model.specs.declared.Kind.{Kind}
use Rattle.model.specs.declared.Kind.TheVariants.{Nop, Call, Check, Return}
use Rattle.model.specs.Access.{Rule}
use Rattle.model.specs.Program.{Program, node_at, is_entry_of}
use Rattle.model.specs.Runs.{reads, is_call}
use Rattle.model.specs.Watches.{Watch}
use Rattle.recipe.specs.declared.grounds.Refusal.{Refusal}
use Rattle.recipe.specs.declared.grounds.Refusal.TheVariants.{NotAStep, StackFull}
use Rattle.walker.specs.declared.stands.Stand.{Stand}

-- what a place past the end stands for
abbrev pub no_frame : Frame
no_frame = record { node = 0; value = 0 }

-- whether an edge of the list leads from a to b
abbrev pub has_edge : List Edge → ℕ → ℕ → Bool
has_edge es a b = list_any (λ e. e.from == a && e.to == b) es

-- the step to node m: how many frames there are then, and the top one. The top frame decides by the kind of its node; below it is the frame that a return would go back to
abbrev pub step_by : Program → List Edge → Rule → Kind → Frame → Frame → ℕ → ℕ → Option (ℕ × Frame)
step_by p es R Nop top below depth m = cond (has_edge es top.node m) (Some (depth, record { node = m; value = top.value })) None
step_by p es R (Call callee grant accept privileged) top below depth m = cond (is_entry_of p callee m) (Some (depth + 1, record { node = m; value = R.enter top.value top.node m })) None
step_by p es R (Check required) top below depth m = cond (R.pass top.value top.node && has_edge es top.node m) (Some (depth, record { node = m; value = top.value })) None
step_by p es R Return top below depth m =
    cond (nat_lt top.node (length p.nodes) && (nat_le 2 depth && (is_call (node_at p below.node).kind && has_edge es below.node m)))
    (Some (depth - 1, record { node = m; value = R.back below.value below.node top.value top.node })) None

abbrev pub step_from : Program → List Edge → Rule → List Frame → ℕ → ℕ → Option (ℕ × Frame)
step_from p es R stack depth m =
    cond (nat_le 1 depth && nat_le depth (length stack)) (step_by p es R (node_at p (get_or stack (depth - 1) no_frame).node).kind (slice_index_or stack (depth - 1) no_frame) (slice_index_or stack (depth - 2) no_frame) depth m) None

-- the first step: an entry of main
abbrev pub step_first : Program → Rule → ℕ → Option (ℕ × Frame)
step_first p R m = cond (is_entry_of p 0 m) (Some (1, record { node = m; value = R.first m })) None

-- where a run stands: how many frames, the top value, the watch's state, and whether that is bad
abbrev pub stand_at : Watch → ℕ → Frame → ℕ → Stand
stand_at W depth top state = record { depth = depth; value = top.value; state = state; bad = W.bad state }

-- the answer, and the stack, after a step, if it is one and the stack has room for it
abbrev pub step_answer : Program → Watch → Option (ℕ × Frame) → ℕ → ℕ → ℕ → ℕ → Result Stand Refusal
step_answer p W None room state m place = Err (NotAStep place)
step_answer p W (Some s) room state m place = cond (nat_le s.0 room) (Ok (stand_at W s.0 s.1 (W.step state (reads p m)))) (Err (StackFull place))

abbrev pub step_stack : Option (ℕ × Frame) → List Frame → List Frame
step_stack None stack = stack
step_stack (Some s) stack = cond (nat_le s.0 (length stack)) (slice_set stack (s.0 - 1) s.1) stack

-- a refusal, at its place in a list
abbrev pub placed : Refusal → ℕ → Refusal
placed (NotAStep place) i = NotAStep i
placed (StackFull place) i = StackFull i
placed other i = other

-- where a walk is: its answer so far, and the stack
pub record Walked : Type 0 where
  pub at : Result Stand Refusal
  pub stack : List Frame

-- one node more, at its place in the list; a walk that was refused stays where it is
abbrev pub advance_by : Program → List Edge → Rule → Watch → Result Stand Refusal → List Frame → ℕ → ℕ → Walked
advance_by p es R W (Ok s) stack m place = record {
  at = step_answer p W (step_from p es R stack s.depth m) (length stack) s.state m place;
  stack = step_stack (step_from p es R stack s.depth m) stack;
}
advance_by p es R W (Err e) stack m place = record { at = Err e; stack = stack }

-- the rest of a list, from a place on
unfoldable pub replay_from : Program → List Edge → Rule → Watch → List ℕ → ℕ → Walked → Walked
replay_from p es R W [] place w = w
replay_from p es R W (m ∷ ms) place w = replay_from p es R W ms (place + 1) (advance_by p es R W w.at w.stack m place)

-- the first node of a list
abbrev pub first_walked : Program → Rule → Watch → ℕ → List Frame → Walked
first_walked p R W m stack = record { at = step_answer p W (step_first p R m) (length stack) W.start m 0; stack = step_stack (step_first p R m) stack }

-- a whole list; an empty one is no run
abbrev pub replayed : Program → List Edge → Rule → Watch → List ℕ → List Frame → Walked
replayed p es R W [] stack = record { at = Err (NotAStep 0); stack = stack }
replayed p es R W (m ∷ ms) stack = replay_from p es R W ms 1 (first_walked p R W m stack)
