-- Laws of what stands at each number of a range, and of the nodes to which edges lead from a node.
use Rattle.std.proofs.Common.{◌≡◌, ℕ, zero, suc, ◌+◌, ◌-◌, ◌<◌, ◌≤◌, false, eqb, ◌⊎◌, List, [], ◌∷◌, ◌++◌, sym, ap, ◌∙◌, inl, inr, add-one, arith, All, Contains}
use Rattle.std.proofs.lemmas.List.Elements.{All-nil, All-cons, All-append, All-weaker, Contains-append_left, Contains-append_right}
use Rattle.std.proofs.lemmas.Bool.{cases_lt, cond-true, cond-false, cond_both, eqb-true, eq-eqb}
use Rattle.model.specs.declared.Edge.{Edge}
use Rattle.model.specs.Program.{Leads}
use Rattle.model.specs.Tables.{each_of, each_from, targets}
use Rattle.model.proofs.Lists.{has_later, has_cases}

module _ {A : Type 0} where
  -- a range that has a first number, and one that has none
  pub each_step : (i n : ℕ) (f : ℕ → List A) → i < n → each_from i n f ≡ f i ++ each_from (i + 1) n f
  unfolding each_of
  each_step i n f lt =
      let e : n - i ≡ suc (n - (i + 1)) = omega arith in
      ap (λ k. each_of k i f) e ∙ ap (λ k. f i ++ each_of (n - (i + 1)) k f) (sym (add-one i))

  pub each_end : (i n : ℕ) (f : ℕ → List A) → n ≤ i → each_from i n f ≡ []
  unfolding each_of
  each_end i n f far = let e : n - i ≡ 0 = omega arith in ap (λ k. each_of k i f) e

  -- the first number of a range passed over, if nothing stands there
  pub each_pass : (i n : ℕ) (f : ℕ → List A) → i < n → f i ≡ [] → each_from i n f ≡ each_from (i + 1) n f
  each_pass i n f lt none = each_step i n f lt ∙ ap (λ xs. xs ++ each_from (i + 1) n f) none

  skip_by : (d i j n : ℕ) (f : ℕ → List A) → d + i ≡ j → j ≤ n → ((k : ℕ) → i ≤ k → k < j → f k ≡ []) → each_from i n f ≡ each_from j n f
  skip_by zero i j n f e le none = let e' : i ≡ j = omega arith in ap (λ k. each_from k n f) e'
  skip_by (suc d) i j n f e le none =
      each_pass i n f (omega arith) (none i (omega arith) (omega arith)) ∙ skip_by d (i + 1) j n f (omega arith) le (λ k low high. none k (omega arith) high)

  -- numbers at which nothing stands are skipped
  pub each_skip : (i j n : ℕ) (f : ℕ → List A) → i ≤ j → j ≤ n → ((k : ℕ) → i ≤ k → k < j → f k ≡ []) → each_from i n f ≡ each_from j n f
  each_skip i j n f up le none = skip_by (j - i) i j n f (omega arith) le none

  all_by : (P : A → Type 0) (d i : ℕ) (f : ℕ → List A) → ((k : ℕ) → i ≤ k → k < i + d → All P (f k)) → All P (each_of d i f)
  unfolding each_of
  all_by P zero i f each = All-nil P
  all_by P (suc d) i f each = All-append P (f i) (each_of d (suc i) f) (each i (omega arith) (omega arith)) (all_by P d (suc i) f (λ k low high. each k (omega arith) (omega arith)))

  -- what holds of all that stands at each number holds of all that stands at the range
  pub all_each : (P : A → Type 0) (i n : ℕ) (f : ℕ → List A) → ((k : ℕ) → i ≤ k → k < n → All P (f k)) → All P (each_from i n f)
  all_each P i n f each = all_by P (n - i) i f (λ k low high. each k low (omega arith))

  has_by : (d i k : ℕ) (f : ℕ → List A) (x : A) → i ≤ k → k < i + d → Contains (f k) x → Contains (each_of d i f) x
  unfolding each_of
  has_by zero i k f x low high h = absurd (omega arith)
  has_by (suc d) i k f x low high h = by (λ above. has_by d (suc i) k f x above (omega arith) h) (cases_lt i k)
    where
      by : (i < k → Contains (each_of d (suc i) f) x) → (i < k) ⊎ (k ≤ i) → Contains (f i ++ each_of d (suc i) f) x
      by later (inl above) = Contains-append_right (f i) (each_of d (suc i) f) x (later above)
      by later (inr under) = let e : k ≡ i = omega arith in Contains-append_left (f i) (each_of d (suc i) f) x (rw e at h)

  -- what stands at a number of the range stands in it
  pub has_each : (i n k : ℕ) (f : ℕ → List A) (x : A) → i ≤ k → k < n → Contains (f k) x → Contains (each_from i n f) x
  has_each i n k f x low high h = has_by (n - i) i k f x low (omega arith) h

-- an edge from n leads to a target, and another edge does not
pub targets_yes : (e : Edge) (es : List Edge) (n : ℕ) → e.from ≡ n → targets (e ∷ es) n ≡ e.to ∷ targets es n
unfolding targets
targets_yes e es n same = cond-true (eqb e.from n) (e.to ∷ targets es n) (targets es n) (eq-eqb e.from n same)

pub targets_no : (e : Edge) (es : List Edge) (n : ℕ) → eqb e.from n ≡ false → targets (e ∷ es) n ≡ targets es n
unfolding targets
targets_no e es n other = cond-false (eqb e.from n) (e.to ∷ targets es n) (targets es n) other

-- edges lead to the targets, and where an edge leads is a target
pub all_targets : (es : List Edge) (n : ℕ) → All (Leads es n) (targets es n)
unfolding targets
all_targets [] n = All-nil (Leads [] n)
all_targets (e ∷ es) n =
    let rest : All (Leads (e ∷ es) n) (targets es n) = All-weaker (Leads es n) (Leads (e ∷ es) n) (λ m h. has_later e es (record { from = n; to = m }) h) (targets es n) (all_targets es n) in
    cond_both (eqb e.from n) (e.to ∷ targets es n) (targets es n) (All (Leads (e ∷ es) n))
    (λ h. let same : e.from ≡ n = eqb-true e.from n h in All-cons (Leads (e ∷ es) n) e.to (targets es n) (0, omega arith, λ k. record { from = same k; to = e.to }) rest) (λ h. rest)

pub has_targets : (es : List Edge) (n m : ℕ) → Leads es n m → Contains (targets es n) m
unfolding targets
has_targets [] n m h = absurd (omega (arith, h.1))
has_targets (e ∷ es) n m h = by (has_targets es n m) (has_cases e es (record { from = n; to = m }) h)
  where
    by : (Leads es n m → Contains (targets es n) m) → (e ≡ record { from = n; to = m }) ⊎ Leads es n m → Contains (targets (e ∷ es) n) m
    by later (inl same) = rw (targets_yes e es n (ap (λ (d : Edge). d.from) same)) (0, omega arith, ap (λ (d : Edge). d.to) same)
    by later (inr h) =
        let rest = later h in
        cond_both (eqb e.from n) (e.to ∷ targets es n) (targets es n) (λ ms. Contains ms m) (λ yes. has_later e.to (targets es n) m rest) (λ no. rest)
