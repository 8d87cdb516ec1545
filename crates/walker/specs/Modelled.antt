-- What an answer of replay_modelled says of the traces of a transition system, with no word of runs.
use Rattle.std.specs.Prelude.{◌≡◌, ℕ, ◌+◌, ◌<◌, ◌≤◌, List, reverse, length, take}
use Rattle.model.specs.Models.{state_after}
use Rattle.model.specs.Program.{Program}
use Rattle.model.specs.Watches.{Watch}
use Rattle.recipe.specs.declared.grounds.Refusal.{Refusal}
use Rattle.recipe.specs.declared.grounds.Refusal.TheVariants.{NotAStep, StackFull}
use Rattle.walker.specs.declared.stands.Stand.{Stand}

-- a list that is accepted is a trace, and what is said of the watch is what the marks of its nodes come to
pub record TraceAccepted (Trace : List ℕ → Type 0) (p : Program) (W : Watch) (ns : List ℕ) (s : Stand) : Type 0 where
  pub trace : Trace ns
  pub state : s.state ≡ state_after p W (reverse ns)
  pub bad : s.bad ≡ W.bad (state_after p W (reverse ns))

-- not a step at place i: the nodes before it are a trace, if there are any, and with it they are none. Stack full at place i of the list: with it they are one, and the stack has no more places than there are nodes before it
abbrev pub TraceRefused : (List ℕ → Type 0) → List ℕ → ℕ → Refusal → Type 0
TraceRefused Trace ns room (NotAStep i) = (0 < i → Trace (take i ns)) × (Trace (take (i + 1) ns) → ⊥)
TraceRefused Trace ns room (StackFull i) = (i < length ns) × Trace (take (i + 1) ns) × (room ≤ i)
TraceRefused Trace ns room _ = ⊥
