-- Runs under history and under stack inspection have the traces of the two models: a frame stands for a state, and a step of a run for a step of the model.
use Rattle.std.proofs.Common.{◌≡◌, ℕ, ◌<◌, ◌≤◌, Bool, true, false, cond, ◌&&◌, ltb, ◌⊎◌, List, [], ◌∷◌, map, reverse, length, sym, refl, ap, ◌∙◌, subst, ap₂, inl, inr, arith}
use lib.Bits.{bit_or, and_le_l, and_le_r}
use Rattle.std.proofs.lemmas.Bool.{false≢true, and_parts, and_from, ltb-true, lt-ltb, cond-true, cond_both}
use Rattle.model.specs.declared.Edge.{Edge}
use Rattle.model.specs.declared.Frame.{Frame}
use Rattle.model.specs.declared.Kind.{Kind}
use Rattle.model.specs.declared.Kind.TheVariants.{Nop, Call, Check, Return}
use Rattle.model.specs.Access.{Rule, is_check, call_enters, call_returns, callee_of, asks_first, asks_enter, asks_pass, asks_back, rights_count, holds, grant_of, accept_of, privileged_of, required_of, history_enter, history_back, stack_enter, set_first, set_pass, callee_rights, history, stack_inspection}
use Rattle.model.specs.Agreement.{RunTrace, HistoryAgrees, StackAgrees}
use Rattle.model.specs.Facts.{Setting, RunGoesBad}
use Rattle.model.specs.Lawful.{Lawful, EdgesObey}
use Rattle.model.specs.Program.{Program, method_at, node_at, rights_of, is_return, is_entry_of, Leads}
use Rattle.model.specs.Models.{Rights, State, rights_in, union, meet, Subset, static, static_of, HistoryStep, StackStep, Chain, begin, more, LeavesBad}
use Rattle.model.specs.Runs.{Run, goes_on, is_call, returns_at, reads}
use Rattle.model.specs.Searches.{BadTrace}
use Rattle.model.specs.Watches.{Watch}
use Rattle.model.proofs.Determined.{run_state}
use Rattle.model.proofs.RightSets.{rights_or, rights_and, holds_subset, subset_holds}
use Rattle.model.proofs.Standing.{rights_small, Standing, Bounded, Valued, run_standing, run_values, standing_returns}

abbrev state_at : Frame → State
state_at f = record { at = f.node; current = rights_in f.value }

-- one step of a run, between its frames
data Move (p : Program) (es : List Edge) (R : Rule) : Frame → List Frame → Frame → List Frame → Type 0 where
  pass : {n v : ℕ} {fs : List Frame} {m : ℕ} → goes_on R (node_at p n).kind n v ≡ true → Leads es n m → Move p es R (record { node = n; value = v }) fs (record { node = m; value = v }) fs
  enter : {n v : ℕ} {fs : List Frame} {m : ℕ} → call_enters p (node_at p n).kind m ≡ true
      → Move p es R (record { node = n; value = v }) fs (record { node = m; value = R.enter v n m }) (record { node = n; value = v } ∷ fs)
  back : {x u n v : ℕ} {fs : List Frame} {m : ℕ} → returns_at p x ≡ true → is_call (node_at p n).kind ≡ true → Leads es n m
      → Move p es R (record { node = x; value = u }) (record { node = n; value = v } ∷ fs) (record { node = m; value = R.back v n u x }) fs

-- what is known of the frames of a run
abbrev Sound : Program → Rule → List Frame → Type 0
Sound p R fs = Standing p fs × Valued R fs

-- a step of a run that comes to a configuration
abbrev Onward : Program → List Edge → Rule → Frame → List Frame → List State → Type 0
Onward p es R f fs d = (g : Frame) × (gs : List Frame) × Move p es R f fs g gs × (d ≡ map state_at (g ∷ gs))

-- each step of a run from sound frames is one of a model, and the other way round; both start alike, and the values stay below the count
record Alike (p : Program) (es : List Edge) (R : Rule) (Step : List State → List State → Type 0) : Type 0 where
  bounded : Bounded R
  firsts : (n : ℕ) → is_entry_of p 0 n ≡ true → R.first n ≡ (method_at p 0).rights
  there : {f g : Frame} {fs gs : List Frame} → Sound p R (f ∷ fs) → Move p es R f fs g gs → Step (map state_at (f ∷ fs)) (map state_at (g ∷ gs))
  back : (f : Frame) (fs : List Frame) {c d : List State} → Sound p R (f ∷ fs) → c ≡ map state_at (f ∷ fs) → Step c d → Onward p es R f fs d

module _ (p : Program) (es : List Edge) (R : Rule) (W : Watch) (obey : EdgesObey p es) where
  sound : {t : List ℕ} {fs : List Frame} {q : ℕ} → Bounded R → Run p es R W t fs q → Sound p R fs
  sound low r = (run_standing p es R W obey r, run_values p es R W low r)

  -- a run goes on by a step
  moved : {t : List ℕ} {f g : Frame} {fs gs : List Frame} {q : ℕ} → Run p es R W t (f ∷ fs) q → Move p es R f fs g gs → Run p es R W (g.node ∷ t) (g ∷ gs) (W.step q (reads p g.node))
  moved r (Move.pass g l) = Run.pass _ r g l
  moved r (Move.enter g) = Run.enter _ r g
  moved r (Move.back a b l) = Run.back _ r a b l

  module _ (Step : List State → List State → Type 0) (alike : Alike p es R Step) where
    run_chain : {t : List ℕ} {fs : List Frame} {q : ℕ} → Run p es R W t fs q → Chain p Step t (map state_at fs)
    run_chain (Run.start {n} a) = subst (λ (v : ℕ). Chain p Step (n ∷ []) (record { at = n; current = rights_in v } ∷ [])) (sym (alike.firsts n a)) (begin a)
    run_chain (Run.pass m r g l) = more (run_chain r) (alike.there (sound alike.bounded r) (Move.pass g l))
    run_chain (Run.enter m r g) = more (run_chain r) (alike.there (sound alike.bounded r) (Move.enter g))
    run_chain (Run.back m r a b l) = more (run_chain r) (alike.there (sound alike.bounded r) (Move.back a b l))

    -- a run and one more step of the model
    grown : {t : List ℕ} {c : List State} {s : State} {ξ : List State} (fs : List Frame) {q : ℕ} → Run p es R W t fs q → c ≡ map state_at fs → Step c (s ∷ ξ)
        → (gs : List Frame) × (q : ℕ) × Run p es R W (s.at ∷ t) gs q × (s ∷ ξ ≡ map state_at gs)
    grown [] r e step = absurd (sound alike.bounded r).0
    grown {t} {c} {s} {ξ} (f ∷ fs) {q} r e step =
        let o : Onward p es R f fs (s ∷ ξ) = alike.back f fs (sound alike.bounded r) e step in
        let h : s ∷ ξ ≡ map state_at (o.0 ∷ o.1) = o.3 in
        let at : o.0.node ≡ s.at = cc in
        (o.0 ∷ o.1, W.step q (reads p o.0.node), subst (λ (n : ℕ). Run p es R W (n ∷ t) (o.0 ∷ o.1) (W.step q (reads p o.0.node))) at (moved r o.2), h)

    chain_run : {t : List ℕ} {c : List State} → Chain p Step t c → (fs : List Frame) × (q : ℕ) × Run p es R W t fs q × (c ≡ map state_at fs)
    chain_run (begin {n} a) =
        (record { node = n; value = R.first n } ∷ [], W.step W.start (reads p n), Run.start a, ap (λ (v : ℕ). record { at = n; current = rights_in v } ∷ []) (sym (alike.firsts n a)))
    chain_run (more ch step) = let r = chain_run ch in grown r.0 r.2 r.3 step

-- a rule whose values are sets of rights
abbrev set_rule : Program → (ℕ → ℕ → ℕ) → (ℕ → ℕ → ℕ → ℕ) → Rule
set_rule p E B = record {
  values = rights_count;
  first = set_first p;
  enter = λ c n m. cond (asks_enter p rights_count c n m) (E c n) 0;
  pass = set_pass p;
  back = λ c n u x. cond (asks_back p rights_count c n u x) (B c n u) 0;
}

-- a call with what it holds, and an entry of its callee
abbrev Calling : Program → Kind → ℕ → Type 0
Calling p k m = (g grant accept : ℕ) × (privileged : Bool) × (k ≡ Call g grant accept privileged) × (is_entry_of p g m ≡ true)

calling : (p : Program) (k : Kind) (m : ℕ) → call_enters p k m ≡ true → Calling p k m
calling p Nop m h = absurd (false≢true h)
calling p (Call g grant accept privileged) m h = (g, grant, accept, privileged, refl, h)
calling p (Check required) m h = absurd (false≢true h)
calling p Return m h = absurd (false≢true h)

-- a call with what it holds
abbrev CallOf : Kind → Type 0
CallOf k = (g grant accept : ℕ) × (privileged : Bool) × (k ≡ Call g grant accept privileged)

call_of : (k : Kind) → is_call k ≡ true → CallOf k
call_of Nop h = absurd (false≢true h)
call_of (Call g grant accept privileged) h = (g, grant, accept, privileged, refl)
call_of (Check required) h = absurd (false≢true h)
call_of Return h = absurd (false≢true h)

return_kind : (k : Kind) → is_return k ≡ true → k ≡ Return
return_kind Nop h = absurd (false≢true h)
return_kind (Call g grant accept privileged) h = absurd (false≢true h)
return_kind (Check required) h = absurd (false≢true h)
return_kind Return h = refl

module _ (p : Program) (E : ℕ → ℕ → ℕ) (B : ℕ → ℕ → ℕ → ℕ) where
  set_bounded : (es : List Edge) → Lawful p es → ((c n : ℕ) → E c n ≤ callee_rights p n) → ((c n u : ℕ) → B c n u ≤ c) → Bounded (set_rule p E B)
  set_bounded es law el bl = record {
    firsts = λ n. cond_both (asks_first p n) (method_at p 0).rights 0 (λ v. v < 65536) (λ h. rights_small p es law 0) (λ h. omega arith);
    enters = λ v n m. cond_both (asks_enter p rights_count v n m) (E v n) 0 (λ w. w < 65536) (λ h. let a = el v n in let b = rights_small p es law (callee_of (node_at p n).kind) in omega arith) (λ h. omega arith);
    backs = λ v n u x. cond_both (asks_back p rights_count v n u x) (B v n u) 0 (λ w. w < 65536)
        (λ h. let a = bl v n u in let b = ltb-true v rights_count (and_parts (ltb v rights_count) (ltb u rights_count && call_returns p (node_at p n).kind x) h).0 in omega arith) (λ h. omega arith);
  }

  -- the answers to what is asked as it should be
  entered : (v n m : ℕ) → v < rights_count → call_enters p (node_at p n).kind m ≡ true → (set_rule p E B).enter v n m ≡ E v n
  entered v n m lt h = cond-true (asks_enter p rights_count v n m) (E v n) 0 (and_from (ltb v rights_count) (call_enters p (node_at p n).kind m) (lt-ltb v rights_count lt) h)

  returned : (v n u x : ℕ) → v < rights_count → u < rights_count → call_returns p (node_at p n).kind x ≡ true → (set_rule p E B).back v n u x ≡ B v n u
  returned v n u x lv lu h =
      cond-true (asks_back p rights_count v n u x) (B v n u) 0 (and_from (ltb v rights_count) (ltb u rights_count && call_returns p (node_at p n).kind x) (lt-ltb v rights_count lv)
      (and_from (ltb u rights_count) (call_returns p (node_at p n).kind x) (lt-ltb u rights_count lu) h))

  -- a node where a run goes on is a nop, or a check whose rights are held
  abbrev Passing : Kind → ℕ → Type 0
  Passing k v = (k ≡ Nop) ⊎ ((required : ℕ) × (k ≡ Check required) × Subset (rights_in required) (rights_in v))

  passing : (n v : ℕ) → goes_on (set_rule p E B) (node_at p n).kind n v ≡ true → Passing (node_at p n).kind v
  passing n v = by (node_at p n).kind refl
    where
      by : (k : Kind) → (node_at p n).kind ≡ k → goes_on (set_rule p E B) k n v ≡ true → Passing k v
      by Nop e h = inl refl
      by (Call g grant accept privileged) e h = absurd (false≢true h)
      by (Check required) e h = inr (required, refl, holds_subset required v (ap (λ k. holds (required_of k) v) (sym e) ∙ (and_parts (asks_pass p rights_count v n) (holds (required_of (node_at p n).kind) v) h).1))
      by Return e h = absurd (false≢true h)

  passes_nop : (n v : ℕ) → (node_at p n).kind ≡ Nop → goes_on (set_rule p E B) (node_at p n).kind n v ≡ true
  passes_nop n v e = ap (λ k. goes_on (set_rule p E B) k n v) e

  passes_check : (n v required : ℕ) → v < rights_count → (node_at p n).kind ≡ Check required → Subset (rights_in required) (rights_in v) → goes_on (set_rule p E B) (node_at p n).kind n v ≡ true
  passes_check n v required lt e sub =
      ap (λ k. goes_on (set_rule p E B) k n v) e ∙ and_from (asks_pass p rights_count v n) (holds (required_of (node_at p n).kind) v)
      (and_from (ltb v rights_count) (is_check (node_at p n).kind) (lt-ltb v rights_count lt) (ap is_check e))
      (ap (λ k. holds (required_of k) v) e ∙ subset_holds required v sub)

-- a stack of states that stands for frames: the top one's node and rights, and the others
stands_for : (s : State) (ξ : List State) (f : Frame) (fs : List Frame) → s ∷ ξ ≡ map state_at (f ∷ fs) → (s.at ≡ f.node) × (s.current ≡ rights_in f.value) × (ξ ≡ map state_at fs)
stands_for s ξ f fs e = let top : s ≡ state_at f = cc in (ap (λ (r : State). r.at) top, ap (λ (r : State). r.current) top, cc)

-- a step of a model from states that stand for frames, as a step of a run
module _ (p : Program) (es : List Edge) (R : Rule) where
  on_pass : (f : Frame) (fs : List Frame) (n m : ℕ) (C : Rights) (ξ : List State) → record { at = n; current = C } ∷ ξ ≡ map state_at (f ∷ fs)
      → goes_on R (node_at p f.node).kind f.node f.value ≡ true → Leads es n m → Onward p es R f fs (record { at = m; current = C } ∷ ξ)
  on_pass f fs n m C ξ e g l =
      let h = stands_for (record { at = n; current = C }) ξ f fs e in
      (record { node = m; value = f.value }, fs, Move.pass g (subst (λ (k : ℕ). Leads es k m) h.0 l), cc)

  on_enter : (f : Frame) (fs : List Frame) (m : ℕ) (D : Rights) (c : List State) → c ≡ map state_at (f ∷ fs)
      → call_enters p (node_at p f.node).kind m ≡ true → rights_in (R.enter f.value f.node m) ≡ D → Onward p es R f fs (record { at = m; current = D } ∷ c)
  on_enter f fs m D c e g is = (record { node = m; value = R.enter f.value f.node m }, f ∷ fs, Move.enter g, cc)

  on_back : (f g : Frame) (fs : List Frame) (n m : ℕ) (C D : Rights) (ξ : List State) → record { at = n; current = C } ∷ ξ ≡ map state_at (g ∷ fs)
      → returns_at p f.node ≡ true → is_call (node_at p g.node).kind ≡ true → Leads es n m → rights_in (R.back g.value g.node f.value f.node) ≡ D
      → Onward p es R f (g ∷ fs) (record { at = m; current = D } ∷ ξ)
  on_back f g fs n m C D ξ e r c l is =
      let h = stands_for (record { at = n; current = C }) ξ g fs e in
      (record { node = m; value = R.back g.value g.node f.value f.node }, fs, Move.back r c (subst (λ (k : ℕ). Leads es k m) h.0 l), cc)

-- a return among the nodes, as it is tested
returns_here : (p : Program) (x : ℕ) → (node_at p x).kind ≡ Return → x < length p.nodes → returns_at p x ≡ true
returns_here p x k lt = and_from (ltb x (length p.nodes)) (is_return (node_at p x).kind) (lt-ltb x (length p.nodes) lt) (ap is_return k)

at_return : (p : Program) (x : ℕ) → returns_at p x ≡ true → ((node_at p x).kind ≡ Return) × (x < length p.nodes)
at_return p x h =
    let a = and_parts (ltb x (length p.nodes)) (is_return (node_at p x).kind) h in
    (return_kind (node_at p x).kind a.1, ltb-true x (length p.nodes) a.0)

-- checks and nops of a model, under a rule whose values are sets
module _ (p : Program) (es : List Edge) (E : ℕ → ℕ → ℕ) (B : ℕ → ℕ → ℕ → ℕ) where
  on_nop : (f : Frame) (fs : List Frame) (n m : ℕ) (C : Rights) (ξ : List State) → record { at = n; current = C } ∷ ξ ≡ map state_at (f ∷ fs)
      → (node_at p n).kind ≡ Nop → Leads es n m → Onward p es (set_rule p E B) f fs (record { at = m; current = C } ∷ ξ)
  on_nop f fs n m C ξ e k l =
      let h = stands_for (record { at = n; current = C }) ξ f fs e in
      on_pass p es (set_rule p E B) f fs n m C ξ e (passes_nop p E B f.node f.value (subst (λ (j : ℕ). (node_at p j).kind ≡ Nop) h.0 k)) l

  on_check : (f : Frame) (fs : List Frame) (n m required : ℕ) (C : Rights) (ξ : List State) → f.value < rights_count → record { at = n; current = C } ∷ ξ ≡ map state_at (f ∷ fs)
      → (node_at p n).kind ≡ Check required → Subset (rights_in required) C → Leads es n m → Onward p es (set_rule p E B) f fs (record { at = m; current = C } ∷ ξ)
  on_check f fs n m required C ξ lt e k sub l =
      let h = stands_for (record { at = n; current = C }) ξ f fs e in
      on_pass p es (set_rule p E B) f fs n m C ξ e
      (passes_check p E B f.node f.value required lt (subst (λ (j : ℕ). (node_at p j).kind ≡ Check required) h.0 k) (subst (Subset (rights_in required)) h.1 sub)) l

-- history: what entering and coming back give, as sets
abbrev history_e : Program → ℕ → ℕ → ℕ
history_e p c n = history_enter c (grant_of (node_at p n).kind) (callee_rights p n)

abbrev history_b : Program → ℕ → ℕ → ℕ → ℕ
history_b p c n u = history_back c u (accept_of (node_at p n).kind)

module _ (p : Program) (es : List Edge) where
  history_enters : (v n m g grant accept : ℕ) (privileged : Bool) → v < rights_count → (node_at p n).kind ≡ Call g grant accept privileged → is_entry_of p g m ≡ true
      → rights_in ((history p).enter v n m) ≡ meet (union (rights_in v) (rights_in grant)) (static p g)
  history_enters v n m g grant accept privileged lt k entry =
      let asked : call_enters p (node_at p n).kind m ≡ true = rw k entry in
      let a : (history p).enter v n m ≡ history_e p v n = entered p (history_e p) (history_b p) v n m lt asked in
      let b : history_e p v n ≡ history_enter v grant (method_at p g).rights = ap (λ (j : Kind). history_enter v (grant_of j) (method_at p (callee_of j)).rights) k in
      ap rights_in (a ∙ b) ∙ rights_and (bit_or v grant) (method_at p g).rights ∙ ap (λ (s : Rights). meet s (static p g)) (rights_or v grant)

  history_returns : (v n u x g grant accept : ℕ) (privileged : Bool) → v < rights_count → u < rights_count → (node_at p n).kind ≡ Call g grant accept privileged → call_returns p (node_at p n).kind x ≡ true
      → rights_in ((history p).back v n u x) ≡ meet (rights_in v) (union (rights_in u) (rights_in accept))
  history_returns v n u x g grant accept privileged lv lu k asked =
      let a : (history p).back v n u x ≡ history_b p v n u = returned p (history_e p) (history_b p) v n u x lv lu asked in
      let b : history_b p v n u ≡ history_back v u accept = ap (λ (j : Kind). history_back v u (accept_of j)) k in
      ap rights_in (a ∙ b) ∙ rights_and v (bit_or u accept) ∙ ap (λ (s : Rights). meet (rights_in v) s) (rights_or u accept)

  history_there : {f g : Frame} {fs gs : List Frame} → Sound p (history p) (f ∷ fs) → Move p es (history p) f fs g gs → HistoryStep p es (map state_at (f ∷ fs)) (map state_at (g ∷ gs))
  history_there sd (Move.pass {n} {v} {fs} {m} on l) = by (passing p (history_e p) (history_b p) n v on)
    where
      by : Passing p (history_e p) (history_b p) (node_at p n).kind v → HistoryStep p es (map state_at (record { node = n; value = v } ∷ fs)) (map state_at (record { node = m; value = v } ∷ fs))
      by (inl k) = HistoryStep.nop k l
      by (inr c) = HistoryStep.check c.1 c.2 l
  history_there sd (Move.enter {n} {v} {fs} {m} on) =
      let c = calling p (node_at p n).kind m on in
      subst (λ (D : Rights). HistoryStep p es (map state_at (record { node = n; value = v } ∷ fs)) (record { at = m; current = D } ∷ map state_at (record { node = n; value = v } ∷ fs)))
      (sym (history_enters v n m c.0 c.1 c.2 c.3 sd.1.0 c.4 c.5)) (HistoryStep.call c.4 c.5)
  history_there sd (Move.back {x} {u} {n} {v} {fs} {m} r c l) =
      let asked = standing_returns p x n u v fs sd.0 r in
      let k = call_of (node_at p n).kind c in
      let x_is = at_return p x r in
      subst (λ (D : Rights). HistoryStep p es (map state_at (record { node = x; value = u } ∷ record { node = n; value = v } ∷ fs)) (record { at = m; current = D } ∷ map state_at fs))
      (sym (history_returns v n u x k.0 k.1 k.2 k.3 sd.1.1.0 sd.1.0 k.4 asked)) (HistoryStep.return x_is.0 x_is.1 k.4 l)

  history_back_lem : (f : Frame) (fs : List Frame) {c d : List State} → Sound p (history p) (f ∷ fs) → c ≡ map state_at (f ∷ fs) → HistoryStep p es c d → Onward p es (history p) f fs d
  history_back_lem f fs sd e (HistoryStep.call {n} {m} {g} {grant} {accept} {v} {C} {ξ} k entry) =
      let h = stands_for (record { at = n; current = C }) ξ f fs e in
      let k' : (node_at p f.node).kind ≡ Call g grant accept v = subst (λ (j : ℕ). (node_at p j).kind ≡ Call g grant accept v) h.0 k in
      on_enter p es (history p) f fs m (meet (union C (rights_in grant)) (static p g)) (record { at = n; current = C } ∷ ξ) e (rw k' entry)
      (history_enters f.value f.node m g grant accept v sd.1.0 k' entry ∙ ap (λ (D : Rights). meet (union D (rights_in grant)) (static p g)) (sym h.1))
  history_back_lem f [] sd e (HistoryStep.return {x} {n} {m} {g} {grant} {accept} {v} {C} {D} {ξ} k lt call l) = let z : ◌≡◌ {A = ℕ} 0 1 = cc in absurd (omega arith)
  history_back_lem f (b ∷ fs) sd e (HistoryStep.return {x} {n} {m} {g} {grant} {accept} {v} {C} {D} {ξ} k lt call l) =
      let h = stands_for (record { at = x; current = D }) (record { at = n; current = C } ∷ ξ) f (b ∷ fs) e in
      let i = stands_for (record { at = n; current = C }) ξ b fs h.2 in
      let r : returns_at p f.node ≡ true = subst (λ (j : ℕ). returns_at p j ≡ true) h.0 (returns_here p x k lt) in
      let k' : (node_at p b.node).kind ≡ Call g grant accept v = subst (λ (j : ℕ). (node_at p j).kind ≡ Call g grant accept v) i.0 call in
      on_back p es (history p) f b fs n m C (meet C (union D (rights_in accept))) ξ h.2 r sd.0.0 l
      (history_returns b.value b.node f.value f.node g grant accept v sd.1.1.0 sd.1.0 k' (standing_returns p f.node b.node f.value b.value fs sd.0 r)
      ∙ ap₂ (λ (S T : Rights). meet S (union T (rights_in accept))) (sym i.1) (sym h.1))
  history_back_lem f fs sd e (HistoryStep.check {n} {m} {required} {C} {ξ} k sub l) = on_check p es (history_e p) (history_b p) f fs n m required C ξ sd.1.0 e k sub l
  history_back_lem f fs sd e (HistoryStep.nop {n} {m} {C} {ξ} k l) = on_nop p es (history_e p) (history_b p) f fs n m C ξ e k l

  history_alike : (own : List Edge) → Lawful p own → Alike p es (history p) (HistoryStep p es)
  history_alike own law = record {
    bounded = set_bounded p (history_e p) (history_b p) own law (λ c n. and_le_r (bit_or c (grant_of (node_at p n).kind)) (callee_rights p n)) (λ c n u. and_le_l c (bit_or u (accept_of (node_at p n).kind)));
    firsts = λ n h. cond-true (asks_first p n) (method_at p 0).rights 0 h;
    there = history_there;
    back = history_back_lem;
  }

pub history_agrees : HistoryAgrees
history_agrees p own es W t law obey = (
  λ h. let r = chain_run p es (history p) W obey (HistoryStep p es) (history_alike p es own law) h.1 in (r.0, r.1, r.2),
  λ r. (map state_at r.0, run_chain p es (history p) W obey (HistoryStep p es) (history_alike p es own law) r.2),
)

-- stack inspection: the same
abbrev stack_e : Program → ℕ → ℕ → ℕ
stack_e p c n = stack_enter (privileged_of (node_at p n).kind) c (rights_of p n) (callee_rights p n)

abbrev stack_b : ℕ → ℕ → ℕ → ℕ
stack_b c n u = c

module _ (p : Program) (es : List Edge) where
  stack_enters : (v n m g grant accept : ℕ) (privileged : Bool) → v < rights_count → (node_at p n).kind ≡ Call g grant accept privileged → is_entry_of p g m ≡ true
      → rights_in ((stack_inspection p).enter v n m) ≡ meet (rights_in (cond privileged (rights_of p n) v)) (static p g)
  stack_enters v n m g grant accept privileged lt k entry =
      let asked : call_enters p (node_at p n).kind m ≡ true = rw k entry in
      let a : (stack_inspection p).enter v n m ≡ stack_e p v n = entered p (stack_e p) stack_b v n m lt asked in
      let b : stack_e p v n ≡ stack_enter privileged v (rights_of p n) (method_at p g).rights = ap (λ (j : Kind). stack_enter (privileged_of j) v (rights_of p n) (method_at p (callee_of j)).rights) k in
      ap rights_in (a ∙ b) ∙ rights_and (cond privileged (rights_of p n) v) (method_at p g).rights

  stack_there : {f g : Frame} {fs gs : List Frame} → Sound p (stack_inspection p) (f ∷ fs) → Move p es (stack_inspection p) f fs g gs → StackStep p es (map state_at (f ∷ fs)) (map state_at (g ∷ gs))
  stack_there sd (Move.pass {n} {v} {fs} {m} on l) = by (passing p (stack_e p) stack_b n v on)
    where
      by : Passing p (stack_e p) stack_b (node_at p n).kind v → StackStep p es (map state_at (record { node = n; value = v } ∷ fs)) (map state_at (record { node = m; value = v } ∷ fs))
      by (inl k) = StackStep.nop k l
      by (inr c) = StackStep.check c.1 c.2 l
  stack_there sd (Move.enter {n} {v} {fs} {m} on) =
      let c = calling p (node_at p n).kind m on in
      subst (λ (D : Rights). StackStep p es (map state_at (record { node = n; value = v } ∷ fs)) (record { at = m; current = D } ∷ map state_at (record { node = n; value = v } ∷ fs)))
      (sym (stack_enters v n m c.0 c.1 c.2 c.3 sd.1.0 c.4 c.5)) (by c.0 c.1 c.2 c.3 c.4 c.5)
    where
      by : (g grant accept : ℕ) (privileged : Bool) → (node_at p n).kind ≡ Call g grant accept privileged → is_entry_of p g m ≡ true
          → StackStep p es (map state_at (record { node = n; value = v } ∷ fs)) (record { at = m; current = meet (rights_in (cond privileged (rights_of p n) v)) (static p g) } ∷ map state_at (record { node = n; value = v } ∷ fs))
      by g grant accept true k entry = StackStep.privileged k entry
      by g grant accept false k entry = StackStep.call k entry
  stack_there sd (Move.back {x} {u} {n} {v} {fs} {m} r c l) =
      let asked = standing_returns p x n u v fs sd.0 r in
      let x_is = at_return p x r in
      subst (λ (w : ℕ). StackStep p es (map state_at (record { node = x; value = u } ∷ record { node = n; value = v } ∷ fs)) (record { at = m; current = rights_in w } ∷ map state_at fs))
      (sym (returned p (stack_e p) stack_b v n u x sd.1.1.0 sd.1.0 asked)) (StackStep.return x_is.0 x_is.1 l)

  stack_back : (f : Frame) (fs : List Frame) {c d : List State} → Sound p (stack_inspection p) (f ∷ fs) → c ≡ map state_at (f ∷ fs) → StackStep p es c d → Onward p es (stack_inspection p) f fs d
  stack_back f fs sd e (StackStep.call {n} {m} {g} {grant} {accept} {C} {ξ} k entry) =
      let h = stands_for (record { at = n; current = C }) ξ f fs e in
      let k' : (node_at p f.node).kind ≡ Call g grant accept false = subst (λ (j : ℕ). (node_at p j).kind ≡ Call g grant accept false) h.0 k in
      on_enter p es (stack_inspection p) f fs m (meet C (static p g)) (record { at = n; current = C } ∷ ξ) e (rw k' entry)
      (stack_enters f.value f.node m g grant accept false sd.1.0 k' entry ∙ ap (λ (D : Rights). meet D (static p g)) (sym h.1))
  stack_back f fs sd e (StackStep.privileged {n} {m} {g} {grant} {accept} {C} {ξ} k entry) =
      let h = stands_for (record { at = n; current = C }) ξ f fs e in
      let k' : (node_at p f.node).kind ≡ Call g grant accept true = subst (λ (j : ℕ). (node_at p j).kind ≡ Call g grant accept true) h.0 k in
      on_enter p es (stack_inspection p) f fs m (meet (static_of p n) (static p g)) (record { at = n; current = C } ∷ ξ) e (rw k' entry)
      (stack_enters f.value f.node m g grant accept true sd.1.0 k' entry ∙ ap (λ (j : ℕ). meet (static_of p j) (static p g)) (sym h.0))
  stack_back f [] sd e (StackStep.return {x} {n} {m} {C} {D} {ξ} k lt l) = let z : ◌≡◌ {A = ℕ} 0 1 = cc in absurd (omega arith)
  stack_back f (b ∷ fs) sd e (StackStep.return {x} {n} {m} {C} {D} {ξ} k lt l) =
      let h = stands_for (record { at = x; current = D }) (record { at = n; current = C } ∷ ξ) f (b ∷ fs) e in
      let i = stands_for (record { at = n; current = C }) ξ b fs h.2 in
      let r : returns_at p f.node ≡ true = subst (λ (j : ℕ). returns_at p j ≡ true) h.0 (returns_here p x k lt) in
      on_back p es (stack_inspection p) f b fs n m C C ξ h.2 r sd.0.0 l
      (ap rights_in (returned p (stack_e p) stack_b b.value b.node f.value f.node sd.1.1.0 sd.1.0 (standing_returns p f.node b.node f.value b.value fs sd.0 r))
      ∙ sym i.1)
  stack_back f fs sd e (StackStep.check {n} {m} {required} {C} {ξ} k sub l) = on_check p es (stack_e p) stack_b f fs n m required C ξ sd.1.0 e k sub l
  stack_back f fs sd e (StackStep.nop {n} {m} {C} {ξ} k l) = on_nop p es (stack_e p) stack_b f fs n m C ξ e k l

  stack_alike : (own : List Edge) → Lawful p own → Alike p es (stack_inspection p) (StackStep p es)
  stack_alike own law = record {
    bounded = set_bounded p (stack_e p) stack_b own law (λ c n. and_le_r (cond (privileged_of (node_at p n).kind) (rights_of p n) c) (callee_rights p n)) (λ c n u. omega arith);
    firsts = λ n h. cond-true (asks_first p n) (method_at p 0).rights 0 h;
    there = stack_there;
    back = stack_back;
  }

pub stack_agrees : StackAgrees
stack_agrees p own es W t law obey = (
  λ h. let r = chain_run p es (stack_inspection p) W obey (StackStep p es) (stack_alike p es own law) h.1 in (r.0, r.1, r.2),
  λ r. (map state_at r.0, run_chain p es (stack_inspection p) W obey (StackStep p es) (stack_alike p es own law) r.2),
)

-- where the traces of a model are those of runs, a trace that leaves the watch bad is that of a bad run, and the other way round
module _ (X : Setting) (Traces : List ℕ → Type 0) (agrees : (t : List ℕ) → (Traces t → RunTrace X.program X.edges X.rule X.watch t) × (RunTrace X.program X.edges X.rule X.watch t → Traces t)) where
  pub bad_run : (t : List ℕ) → Traces t → LeavesBad X.program X.watch t → RunGoesBad X
  bad_run t h bad =
      let r = (agrees t).0 h in
      (reverse t, r.0, r.1, r.2, ap X.watch.bad (sym (run_state X.program X.edges X.rule X.watch r.2)) ∙ bad)

  pub bad_trace : (t : List ℕ) → BadTrace X t → Traces t × LeavesBad X.program X.watch t
  bad_trace t b = ((agrees t).1 (b.0, b.1, b.2), ap X.watch.bad (run_state X.program X.edges X.rule X.watch b.2) ∙ b.3)
