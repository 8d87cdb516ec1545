-- History-based access control and stack inspection as transition systems: steps between stacks of a node and a set of rights, and the traces that these have. It stands apart from runs and rules, and sets are sets here, and not numbers.
use Rattle.std.specs.Prelude.{◌≡◌, ℕ, ◌/◌, ◌%◌, ◌^◌, ◌<◌, Bool, true, false, ◌&&◌, ◌||◌, List, [], ◌∷◌, reverse, length, ◌==◌}
use Rattle.model.specs.declared.Edge.{Edge}
use Rattle.model.specs.declared.Kind.TheVariants.{Nop, Call, Check, Return}
use Rattle.model.specs.Program.{Program, method_at, node_at, home, is_entry_of, Leads}
use Rattle.model.specs.Watches.{Watch}

-- a set of rights, by which rights it has
abbrev pub Rights : Type 0
Rights = ℕ → Bool

abbrev pub union : Rights → Rights → Rights
union a b = λ i. a i || b i

abbrev pub meet : Rights → Rights → Rights
meet a b = λ i. a i && b i

abbrev pub Subset : Rights → Rights → Type 0
Subset a b = (i : ℕ) → a i ≡ true → b i ≡ true

-- the set that a number stands for: right i counts 2^i
unfoldable pub rights_in : ℕ → Rights
rights_in s = λ i. (s / 2 ^ i % 2 == 1)

-- a state is a node and the current rights; a configuration is a stack of states, the top one first
pub record State : Type 0 where
  pub at : ℕ
  pub current : Rights

-- static rights of a method, and of the method of a node
abbrev pub static : Program → ℕ → Rights
static p k = rights_in (method_at p k).rights

abbrev pub static_of : Program → ℕ → Rights
static_of p n = static p (home p.methods n)

-- history-based access control
pub data HistoryStep (p : Program) (es : List Edge) : List State → List State → Type 0 where
  call : {n m g grant accept : ℕ} {v : Bool} {C : Rights} {ξ : List State} → (node_at p n).kind ≡ Call g grant accept v → is_entry_of p g m ≡ true
      → HistoryStep p es (record { at = n; current = C } ∷ ξ) (record { at = m; current = meet (union C (rights_in grant)) (static p g) } ∷ record { at = n; current = C } ∷ ξ)
  return : {x n m g grant accept : ℕ} {v : Bool} {C D : Rights} {ξ : List State} → (node_at p x).kind ≡ Return → x < length p.nodes → (node_at p n).kind ≡ Call g grant accept v → Leads es n m
      → HistoryStep p es (record { at = x; current = D } ∷ record { at = n; current = C } ∷ ξ) (record { at = m; current = meet C (union D (rights_in accept)) } ∷ ξ)
  check : {n m required : ℕ} {C : Rights} {ξ : List State} → (node_at p n).kind ≡ Check required → Subset (rights_in required) C → Leads es n m
      → HistoryStep p es (record { at = n; current = C } ∷ ξ) (record { at = m; current = C } ∷ ξ)
  nop : {n m : ℕ} {C : Rights} {ξ : List State} → (node_at p n).kind ≡ Nop → Leads es n m
      → HistoryStep p es (record { at = n; current = C } ∷ ξ) (record { at = m; current = C } ∷ ξ)

-- stack inspection: check and nop as above; a call enters with what is current, or, privileged, with the caller's static rights; a return gives the rights back that were current at the call
pub data StackStep (p : Program) (es : List Edge) : List State → List State → Type 0 where
  call : {n m g grant accept : ℕ} {C : Rights} {ξ : List State} → (node_at p n).kind ≡ Call g grant accept false → is_entry_of p g m ≡ true
      → StackStep p es (record { at = n; current = C } ∷ ξ) (record { at = m; current = meet C (static p g) } ∷ record { at = n; current = C } ∷ ξ)
  privileged : {n m g grant accept : ℕ} {C : Rights} {ξ : List State} → (node_at p n).kind ≡ Call g grant accept true → is_entry_of p g m ≡ true
      → StackStep p es (record { at = n; current = C } ∷ ξ) (record { at = m; current = meet (static_of p n) (static p g) } ∷ record { at = n; current = C } ∷ ξ)
  return : {x n m : ℕ} {C D : Rights} {ξ : List State} → (node_at p x).kind ≡ Return → x < length p.nodes → Leads es n m
      → StackStep p es (record { at = x; current = D } ∷ record { at = n; current = C } ∷ ξ) (record { at = m; current = C } ∷ ξ)
  check : {n m required : ℕ} {C : Rights} {ξ : List State} → (node_at p n).kind ≡ Check required → Subset (rights_in required) C → Leads es n m
      → StackStep p es (record { at = n; current = C } ∷ ξ) (record { at = m; current = C } ∷ ξ)
  nop : {n m : ℕ} {C : Rights} {ξ : List State} → (node_at p n).kind ≡ Nop → Leads es n m
      → StackStep p es (record { at = n; current = C } ∷ ξ) (record { at = m; current = C } ∷ ξ)

-- the nodes of a chain of steps from an entry of main with main's static rights, the last one first, and the configuration that it comes to
pub data Chain (p : Program) (Step : List State → List State → Type 0) : List ℕ → List State → Type 0 where
  begin : {n : ℕ} → is_entry_of p 0 n ≡ true → Chain p Step (n ∷ []) (record { at = n; current = static p 0 } ∷ [])
  more : {t : List ℕ} {c : List State} {s : State} {ξ : List State} → Chain p Step t c → Step c (s ∷ ξ) → Chain p Step (s.at ∷ t) (s ∷ ξ)

-- the traces of the two models: the nodes of a chain, in order
abbrev pub HistoryTrace : Program → List Edge → List ℕ → Type 0
HistoryTrace p es t = (c : List State) × Chain p (HistoryStep p es) (reverse t) c

abbrev pub StackTrace : Program → List Edge → List ℕ → Type 0
StackTrace p es t = (c : List State) × Chain p (StackStep p es) (reverse t) c

-- the watch's state after the nodes of a trace, the last one first: it reads the mark of each
abbrev pub state_after : Program → Watch → List ℕ → ℕ
state_after p W [] = W.start
state_after p W (m ∷ t) = W.step (state_after p W t) (node_at p m).mark

-- the nodes of a trace, in order, leave the watch bad
abbrev pub LeavesBad : Program → Watch → List ℕ → Type 0
LeavesBad p W t = W.bad (state_after p W (reverse t)) ≡ true
