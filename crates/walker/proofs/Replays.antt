-- Steps of a replay: a node more, the end, a refusal, and the first node.
use Rattle.std.proofs.Common.{◌≡◌, ℕ, ◌+◌, ◌<◌, ◌≤◌, Bool, true, false, cond, leb, List, [], ◌∷◌, length, get_or, drop, Some, None, Ok, Err, Option, Result, MatchResult, IsErrAnd, sym, refl, ap, subst, ◌∙◌, arith}
use Rattle.std.proofs.lemmas.List.{drop_more, drop_all}
use Rattle.model.specs.declared.Edge.{Edge}
use Rattle.model.specs.declared.Frame.{Frame}
use Rattle.model.specs.Access.{Rule}
use Rattle.model.specs.Program.{Program}
use Rattle.model.specs.Runs.{reads}
use Rattle.model.specs.Watches.{Watch}
use Rattle.recipe.specs.declared.grounds.Refusal.{Refusal}
use Rattle.recipe.specs.declared.grounds.Refusal.TheVariants.{NotAStep, StackFull}
use Rattle.walker.specs.declared.stands.Stand.{Stand}
use Rattle.walker.specs.Walking.{Walked, advance_by, replay_from, step_answer, stand_at, placed}

-- a walk by its two parts
pub walk : {a b : Result Stand Refusal} {s t : List Frame} → a ≡ b → s ≡ t → ◌≡◌ {A = Walked} (record { at = a; stack = s }) (record { at = b; stack = t })
walk e f = λ i. record { at = e i; stack = f i }

module _ (p : Program) (es : List Edge) (R : Rule) (W : Watch) where
  pub replay_more : (ns : List ℕ) (i place : ℕ) (w : Walked) → i < length ns → replay_from p es R W (drop i ns) place w ≡ replay_from p es R W (drop (i + 1) ns) (place + 1) (advance_by p es R W w.at w.stack (get_or ns i 0) place)
  unfolding replay_from
  replay_more ns i place w lt = ap (λ ms. replay_from p es R W ms place w) (drop_more ns i 0 lt)

  pub replay_end : (ns : List ℕ) (i place : ℕ) (w : Walked) → length ns ≤ i → replay_from p es R W (drop i ns) place w ≡ w
  unfolding replay_from
  replay_end ns i place w far = ap (λ ms. replay_from p es R W ms place w) (drop_all i ns far)

  -- a walk that was refused goes no further
  pub replay_refused : (ms : List ℕ) (i : ℕ) (e : Refusal) (stack : List Frame) → replay_from p es R W ms i (record { at = Err e; stack = stack }) ≡ record { at = Err e; stack = stack }
  unfolding replay_from
  replay_refused [] i e stack = refl
  replay_refused (m ∷ ms) i e stack = replay_refused ms (i + 1) e stack

-- the answer of a step at a place is the answer at 0, with its refusal placed
module _ (p : Program) (W : Watch) (room state m i : ℕ) where
  pub answer_refused : (o : Option (ℕ × Frame)) (e : Refusal) → step_answer p W o room state m 0 ≡ Err e → step_answer p W o room state m i ≡ Err (placed e i)
  answer_refused None e h = let f : NotAStep 0 ≡ e = cc in ap (λ x. Err (placed x i)) f
  answer_refused (Some s) e h = by (leb s.0 room) h
    where
      by : (b : Bool) → cond b (Ok (stand_at W s.0 s.1 (W.step state (reads p m)))) (Err (StackFull 0)) ≡ Err e
          → cond b (Ok (stand_at W s.0 s.1 (W.step state (reads p m)))) (Err (StackFull i)) ≡ Err (placed e i)
      by true h = let z : ◌≡◌ {A = ℕ} 0 1 = cc in absurd (omega arith)
      by false h = let f : StackFull 0 ≡ e = cc in ap (λ x. Err (placed x i)) f

  pub answer_stands : (o : Option (ℕ × Frame)) (s : Stand) → step_answer p W o room state m 0 ≡ Ok s → step_answer p W o room state m i ≡ Ok s
  answer_stands None s h = let z : ◌≡◌ {A = ℕ} 0 1 = cc in absurd (omega arith)
  answer_stands (Some f) s h = by (leb f.0 room) h
    where
      by : (b : Bool) → cond b (Ok (stand_at W f.0 f.1 (W.step state (reads p m)))) (Err (StackFull 0)) ≡ Ok s
          → cond b (Ok (stand_at W f.0 f.1 (W.step state (reads p m)))) (Err (StackFull i)) ≡ Ok s
      by true h = h
      by false h = let z : ◌≡◌ {A = ℕ} 0 1 = cc in absurd (omega arith)

-- what map_err made an answer of: of a stand the same, of a refusal what the function made of it
pub mapped_ok : (r m : Result Stand Refusal) (at : Stand) (Made : Refusal → Refusal → Type 0) → MatchResult r (λ x. m ≡ Ok x) (λ e. IsErrAnd m (Made e)) → m ≡ Ok at → r ≡ Ok at
mapped_ok (Ok x) m at Made h same = sym h ∙ same
mapped_ok (Err e) (Ok x) at Made h same = absurd h
mapped_ok (Err e) (Err d) at Made h same = let z : ◌≡◌ {A = ℕ} 0 1 = cc in absurd (omega arith)

pub mapped_err : (r m : Result Stand Refusal) (d : Refusal) (Made : Refusal → Refusal → Type 0) → MatchResult r (λ x. m ≡ Ok x) (λ e. IsErrAnd m (Made e)) → m ≡ Err d → (e : Refusal) × (r ≡ Err e) × Made e d
mapped_err (Ok x) m d Made h same = let bad : Ok x ≡ Err d = sym h ∙ same in let z : ◌≡◌ {A = ℕ} 0 1 = cc in absurd (omega arith)
mapped_err (Err e) (Ok x) d Made h same = absurd h
mapped_err (Err e) (Err f) d Made h same = (e, refl, let alike : f ≡ d = cc in subst (Made e) alike h)
