-- What an answer says of runs it says of the traces of a transition system that agrees with them.
use Rattle.std.proofs.Common.{◌≡◌, ℕ, ◌+◌, List, length, take, Ok, Err, Result, MatchResult, ap, ◌∙◌, arith}
use Rattle.std.proofs.lemmas.List.{length-take, length-reverse}
use Rattle.model.specs.declared.Edge.{Edge}
use Rattle.model.specs.declared.Frame.{Frame}
use Rattle.model.specs.Access.{Rule}
use Rattle.model.specs.Agreement.{RunTrace}
use Rattle.model.specs.Program.{Program}
use Rattle.model.specs.Watches.{Watch}
use Rattle.recipe.specs.declared.grounds.Refusal.{Refusal}
use Rattle.recipe.specs.declared.grounds.Refusal.TheVariants.{NotAStep, StackFull}
use Rattle.walker.specs.declared.stands.Stand.{Stand}
use Rattle.walker.specs.Accepted.{frames_in, Stands, Refuses}
use Rattle.walker.specs.Modelled.{TraceAccepted, TraceRefused}
use Rattle.walker.proofs.Walks.{few_frames}

module _ (p : Program) (es : List Edge) (R : Rule) (W : Watch) (Trace : List ℕ → Type 0) (agrees : (t : List ℕ) → (Trace t → RunTrace p es R W t) × (RunTrace p es R W t → Trace t)) (ns : List ℕ) (stack : List Frame) (room : ℕ) (kept : length stack ≡ room) where
  pub modelled : (a : Result Stand Refusal) → MatchResult a (Stands p es R W ns stack) (Refuses p es R W ns stack) → MatchResult a (TraceAccepted Trace p W ns) (TraceRefused Trace ns room)
  modelled (Ok s) h = record { trace = (agrees ns).1 (frames_in stack s.depth, s.state, h.run); state = h.state; bad = h.bad ∙ ap W.bad h.state }
  modelled (Err (NotAStep i)) h = (
    λ l. let r = h.0 l in (agrees (take i ns)).1 (frames_in stack r.0, r.1, r.2.0),
    λ t. h.1 ((agrees (take (i + 1) ns)).0 t),
  )
  modelled (Err (StackFull i)) h =
      let few = few_frames p es R W h.4 in
      let a = length-reverse (take (i + 1) ns) in
      let b = length-take (i + 1) ns in
      (h.0, (agrees (take (i + 1) ns)).1 (h.2, h.3, h.4), omega arith)
  modelled (Err _) h = absurd h
