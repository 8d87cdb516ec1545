-- What holds of the frames of every run: each frame below another is at a call, of the method that the one above is in; and where the rule answers with values below its count, each frame's value is below it. So a run asks its rule only as it should.
use Rattle.std.proofs.Common.{◌≡◌, ℕ, ◌<◌, ◌≤◌, true, ◌&&◌, eqb, ltb, ◌⊎◌, List, [], ◌∷◌, length, sym, refl, ap, ◌∙◌, subst, inl, inr, arith}
use Rattle.std.proofs.lemmas.List.{get_or_default, get_or_past}
use Rattle.std.specs.List.{AllByRecursion as All}
use Rattle.std.proofs.lemmas.Bool.{cases_lt, false≢true, and_parts, and_from, eqb-true, eq-eqb}
use Rattle.model.specs.declared.Edge.{Edge}
use Rattle.model.specs.declared.Frame.{Frame}
use Rattle.model.specs.declared.Kind.{Kind}
use Rattle.model.specs.declared.Kind.TheVariants.{Nop, Call, Check, Return}
use Rattle.model.specs.Access.{Rule, call_enters, call_returns, callee_of}
use Rattle.model.specs.Lawful.{Lawful, EdgesObey}
use Rattle.model.specs.Program.{Program, no_method, method_at, node_at, no_edge, home, is_return, EdgeRules, is_entry_of, is_return_of}
use Rattle.model.specs.Runs.{Run, start, pass, enter, back, is_call, returns_at}
use Rattle.model.specs.Watches.{Watch}

-- the edges of a lawful program obey the rules
pub edges_obey : (p : Program) (es : List Edge) → Lawful p es → EdgesObey p es
edges_obey p es law e h = subst (EdgeRules p) (get_or_default es h.0 no_edge e h.1 ∙ h.2) (law.edge h.0 h.1)

-- no method's rights reach 65,536; past the last method there are none
pub rights_small : (p : Program) (es : List Edge) → Lawful p es → (k : ℕ) → (method_at p k).rights < 65536
rights_small p es law k = by (cases_lt k (length p.methods))
  where
    by : (k < length p.methods) ⊎ (length p.methods ≤ k) → (method_at p k).rights < 65536
    by (inl lt) = (law.method k lt).rights
    by (inr le) = omega (arith, ap (λ m. m.rights) (get_or_past p.methods k no_method le))

-- an entry of a method is a node of it
pub entry_home : (p : Program) (k n : ℕ) → is_entry_of p k n ≡ true → home p.methods n ≡ k
entry_home p k n h =
    let a = and_parts (ltb n (length p.nodes)) ((node_at p n).entry && eqb (home p.methods n) k) h in
    eqb-true (home p.methods n) k (and_parts (node_at p n).entry (eqb (home p.methods n) k) a.1).1

-- a node that is entered from is a call, and the other node is an entry of its callee
pub enters_call : (p : Program) (k : Kind) (m : ℕ) → call_enters p k m ≡ true → (is_call k ≡ true) × (is_entry_of p (callee_of k) m ≡ true)
enters_call p Nop m h = absurd (false≢true h)
enters_call p (Call callee grant accept privileged) m h = (refl, h)
enters_call p (Check required) m h = absurd (false≢true h)
enters_call p Return m h = absurd (false≢true h)

-- what returns to a call from its callee
pub call_returns_lem : (p : Program) (k : Kind) (x : ℕ) → is_call k ≡ true → is_return_of p (callee_of k) x ≡ true → call_returns p k x ≡ true
call_returns_lem p Nop x c h = absurd (false≢true c)
call_returns_lem p (Call callee grant accept privileged) x c h = h
call_returns_lem p (Check required) x c h = absurd (false≢true c)
call_returns_lem p Return x c h = absurd (false≢true c)

-- the frames below a node of method k: none if k is main, or else the first is at a call of k, and the others stand below that in the same way
abbrev pub Called : Program → List Frame → ℕ → Type 0
Called p [] k = k ≡ 0
Called p (f ∷ fs) k = (is_call (node_at p f.node).kind ≡ true) × (callee_of (node_at p f.node).kind ≡ k) × Called p fs (home p.methods f.node)

-- there is a top frame, and the others stand below it
abbrev pub Standing : Program → List Frame → Type 0
Standing p [] = ⊥
Standing p (f ∷ fs) = Called p fs (home p.methods f.node)

pub run_standing : (p : Program) (es : List Edge) (R : Rule) (W : Watch) {t : List ℕ} {fs : List Frame} {q : ℕ} → EdgesObey p es → Run p es R W t fs q → Standing p fs
run_standing p es R W obey (start {n} a) = entry_home p 0 n a
run_standing p es R W obey (pass {n = n} {fs = fs} m r g l) = subst (Called p fs) (obey (record { from = n; to = m }) l).stays (run_standing p es R W obey r)
run_standing p es R W obey (enter {n = n} m r g) =
    let c = enters_call p (node_at p n).kind m g in
    (c.0, sym (entry_home p (callee_of (node_at p n).kind) m c.1), run_standing p es R W obey r)
run_standing p es R W obey (back {n = n} {fs = fs} m r a b l) = subst (Called p fs) (obey (record { from = n; to = m }) l).stays (run_standing p es R W obey r).2

-- where a run returns, it does so from the callee of the call below
pub standing_returns : (p : Program) (x n : ℕ) (u v : ℕ) (fs : List Frame) → Standing p (record { node = x; value = u } ∷ record { node = n; value = v } ∷ fs) → returns_at p x ≡ true → call_returns p (node_at p n).kind x ≡ true
standing_returns p x n u v fs stands r =
    let a = and_parts (ltb x (length p.nodes)) (is_return (node_at p x).kind) r in
    let callee = callee_of (node_at p n).kind in
    call_returns_lem p (node_at p n).kind x stands.0
    (and_from (ltb x (length p.nodes)) (is_return (node_at p x).kind && eqb (home p.methods x) callee) a.0
    (and_from (is_return (node_at p x).kind) (eqb (home p.methods x) callee) a.1 (eq-eqb (home p.methods x) callee (sym stands.1))))

-- a rule that answers with values below its count
pub record Bounded (R : Rule) : Type 0 where
  pub firsts : (n : ℕ) → R.first n < R.values
  pub enters : (v n m : ℕ) → R.enter v n m < R.values
  pub backs : (v n u x : ℕ) → R.back v n u x < R.values

abbrev pub Valued : Rule → List Frame → Type 0
Valued R fs = All (λ (f : Frame). f.value < R.values) fs

pub run_values : (p : Program) (es : List Edge) (R : Rule) (W : Watch) {t : List ℕ} {fs : List Frame} {q : ℕ} → Bounded R → Run p es R W t fs q → Valued R fs
run_values p es R W low (start {n} a) = (low.firsts n, tt)
run_values p es R W low (pass m r g l) = run_values p es R W low r
run_values p es R W low (enter {n = n} {v = v} m r g) = (low.enters v n m, run_values p es R W low r)
run_values p es R W low (back {x = x} {u = u} {n = n} {v = v} m r a b l) = (low.backs v n u x, (run_values p es R W low r).1.1)
