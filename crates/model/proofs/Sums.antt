-- Laws of offset and home: where each method's nodes begin, and which method a node is of.
use Rattle.std.proofs.Common.{◌≡◌, ℕ, zero, suc, ◌+◌, ◌-◌, ◌<◌, ◌≤◌, ltb, ◌⊎◌, List, [], ◌∷◌, length, get_or, refl, ap, ◌∙◌, inl, inr, arith}
use Rattle.std.proofs.lemmas.Bool.{cases_lt, lt-ltb, le-ltb, cond-true, cond-false}
use Rattle.model.specs.declared.Method.{Method}
use Rattle.model.specs.Program.{no_method, offset, home}

-- the next method begins where the nodes of this one end
pub offset_step : (ms : List Method) (k : ℕ) → offset ms (suc k) ≡ offset ms k + (get_or ms k no_method).nodes
unfolding offset
offset_step [] zero = refl
offset_step [] (suc k) = refl
offset_step (m ∷ ms) zero = omega arith
offset_step (m ∷ ms) (suc k) = let h = offset_step ms k in omega arith

pub offset_mono : (ms : List Method) (j k : ℕ) → j ≤ k → offset ms j ≤ offset ms k
unfolding offset
offset_mono ms zero k le = omega arith
offset_mono ms (suc j) zero le = absurd (omega arith)
offset_mono [] (suc j) (suc k) le = omega arith
offset_mono (m ∷ ms) (suc j) (suc k) le = let h = offset_mono ms j k (omega arith) in omega arith

-- a node of the first method, and one past it
pub home_first : (m : Method) (ms : List Method) (n : ℕ) → n < m.nodes → home (m ∷ ms) n ≡ 0
unfolding home
home_first m ms n lt = cond-true (ltb n m.nodes) 0 (suc (home ms (n - m.nodes))) (lt-ltb n m.nodes lt)

pub home_past : (m : Method) (ms : List Method) (n : ℕ) → m.nodes ≤ n → home (m ∷ ms) n ≡ suc (home ms (n - m.nodes))
unfolding home
home_past m ms n le = cond-false (ltb n m.nodes) 0 (suc (home ms (n - m.nodes))) (le-ltb n m.nodes le)

-- if node n lies in method k's span then k is its home
pub home_span : (ms : List Method) (n k : ℕ) → k < length ms → offset ms k ≤ n → n < offset ms (suc k) → home ms n ≡ k
unfolding offset
home_span [] n k lt low high = absurd (omega arith)
home_span (m ∷ ms) n zero lt low high = home_first m ms n (omega arith)
home_span (m ∷ ms) n (suc k) lt low high =
    home_past m ms n (omega arith) ∙ ap suc (home_span ms (n - m.nodes) k (omega arith) (omega arith) (omega arith))

-- below the sum of all, n's home is a method whose span has it
pub home_within : (ms : List Method) (n : ℕ) → n < offset ms (length ms) → (home ms n < length ms) × (offset ms (home ms n) ≤ n) × (n < offset ms (suc (home ms n)))
unfolding offset
home_within [] n lt = absurd (omega arith)
home_within (m ∷ ms) n lt = split (cases_lt n m.nodes) (λ le. home_within ms (n - m.nodes) (omega arith))
  where
    split : (n < m.nodes) ⊎ (m.nodes ≤ n) → (m.nodes ≤ n → (home ms (n - m.nodes) < length ms) × (offset ms (home ms (n - m.nodes)) ≤ n - m.nodes) × (n - m.nodes < offset ms (suc (home ms (n - m.nodes)))))
        → (home (m ∷ ms) n < length (m ∷ ms)) × (offset (m ∷ ms) (home (m ∷ ms) n) ≤ n) × (n < offset (m ∷ ms) (suc (home (m ∷ ms) n)))
    split (inl lt) rest = rw (home_first m ms n lt) (omega arith)
    split (inr le) rest = let h = rest le in rw (home_past m ms n le) (omega arith)

-- past the sum of all there is no method
pub home_far : (ms : List Method) (n : ℕ) → offset ms (length ms) ≤ n → home ms n ≡ length ms
unfolding offset home
home_far [] n far = refl
home_far (m ∷ ms) n far = home_past m ms n (omega arith) ∙ ap suc (home_far ms (n - m.nodes) (omega arith))
