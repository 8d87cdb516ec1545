-- What working a row offers is given by the rows up to it; and what these rows give, and the rows before it did not, is offered.
use Rattle.std.proofs.Common.{◌≡◌, ℕ, ◌+◌, ◌<◌, true, ◌&&◌, eqb, ltb, ◌⊎◌, List, [], ◌∷◌, length, sym, refl, ap, ◌∙◌, subst, inl, inr, arith, All, Contains}
use Rattle.std.proofs.lemmas.List.Elements.{All-nil, All-append, All-map, All-weaker, Contains-append_left, Contains-append_right}
use Rattle.std.proofs.lemmas.Bool.{false≢true, ltb-true, and_parts, cond-true, cond_both, cases_order}
use Rattle.model.specs.declared.Fact.{Fact}
use Rattle.model.specs.declared.Kind.{Kind}
use Rattle.model.specs.declared.Kind.TheVariants.{Nop, Call, Check, Return}
use Rattle.model.specs.Access.{call_enters}
use Rattle.model.specs.Facts.{Setting, kind_at, enter_point}
use Rattle.model.specs.Program.{Program, node_at, home, is_return, is_entry_of, Leads}
use Rattle.model.specs.Runs.{goes_on, returns_at}
use Rattle.model.specs.Tables.{start_of, end_of, row_at, first_row, follow_row, enter_row, back_row, same_point, gives, joins, targets, node_count, first_at, firsts, follows, enter_at, enters, backs, return_at, call_at, offers_by, offers}
use Rattle.model.proofs.Each.{all_each, has_each, all_targets, has_targets}
use Rattle.model.proofs.Grounded.{Given, first, follow, enter, back}
use Rattle.model.proofs.Lists.{All-one, has_here, has_map}

-- an entry of a method is a node
entry_node : (p : Program) (k n : ℕ) → is_entry_of p k n ≡ true → n < length p.nodes
entry_node p k n h = ltb-true n (length p.nodes) (and_parts (ltb n (length p.nodes)) ((node_at p n).entry && eqb (home p.methods n) k) h).0

-- no node is both a call that is entered from and a return
enters_returns : (p : Program) (k : Kind) (m : ℕ) → call_enters p k m ≡ true → is_return k ≡ true → ⊥
enters_returns p Nop m h r = false≢true r
enters_returns p (Call callee grant accept privileged) m h r = false≢true r
enters_returns p (Check required) m h r = false≢true r
enters_returns p Return m h r = false≢true h

module _ (X : Setting) where
  -- what two joined rows are: a return, and a call that enters where it began, by rule 3
  pub joins_parts : (c x : Fact) → joins X c x ≡ true
      → (returns_at X.program x.node ≡ true) × (call_enters X.program (kind_at X (end_of c)) x.entry ≡ true) × (same_point (enter_point X (end_of c) x.entry) (start_of x) ≡ true)
  joins_parts c x h =
      let a = and_parts (returns_at X.program x.node) (gives X (end_of c) (start_of x)) h in
      let b = and_parts (call_enters X.program (kind_at X (end_of c)) x.entry) (same_point (enter_point X (end_of c) x.entry) (start_of x)) a.1 in
      (a.0, b.0, b.1)

  joins_returns : (c x : Fact) → joins X c x ≡ true → is_return (kind_at X (end_of x)) ≡ true
  joins_returns c x h = (and_parts (ltb x.node (node_count X)) (is_return (kind_at X (end_of x))) (joins_parts c x h).0).1

  -- the entries of main that are offered first are given by no rows
  pub firsts_given : All (Given X [] 0) (firsts X)
  firsts_given =
      all_each (Given X [] 0) 0 (node_count X) (first_at X) (λ n low high.
      cond_both (is_entry_of X.program 0 n) (first_row X n ∷ []) [] (All (Given X [] 0)) (λ h. All-one (Given X [] 0) (first_row X n) (first n h)) (λ h. All-nil (Given X [] 0)))

  pub has_firsts : (n : ℕ) → is_entry_of X.program 0 n ≡ true → Contains (firsts X) (first_row X n)
  has_firsts n h =
      has_each 0 (node_count X) n (first_at X) (first_row X n) (omega arith) (entry_node X.program 0 n h)
      (rw (cond-true (is_entry_of X.program 0 n) (first_row X n ∷ []) [] h) (has_here (first_row X n) []))

  module _ (rows : List Fact) (i : ℕ) where
    follows_given : goes_on X.rule (kind_at X (end_of (row_at rows i))) (row_at rows i).node (row_at rows i).value ≡ true → All (Given X rows (i + 1)) (follows X i (row_at rows i))
    follows_given g =
        All-map (Given X rows (i + 1)) (follow_row X i (row_at rows i)) (targets X.edges (row_at rows i).node)
        (All-weaker (Leads X.edges (row_at rows i).node) (λ m. Given X rows (i + 1) (follow_row X i (row_at rows i) m)) (λ m l. follow i m (omega arith) g l) (targets X.edges (row_at rows i).node) (all_targets X.edges (row_at rows i).node))

    backs_given : (c x : ℕ) → c < i + 1 → x < i + 1 → joins X (row_at rows c) (row_at rows x) ≡ true → All (Given X rows (i + 1)) (backs X c (row_at rows c) x (row_at rows x))
    backs_given c x a b h =
        All-map (Given X rows (i + 1)) (back_row X c (row_at rows c) x (row_at rows x)) (targets X.edges (row_at rows c).node)
        (All-weaker (Leads X.edges (row_at rows c).node) (λ m. Given X rows (i + 1) (back_row X c (row_at rows c) x (row_at rows x) m)) (λ m l. back c x m a b h l) (targets X.edges (row_at rows c).node) (all_targets X.edges (row_at rows c).node))

    by_kind : (k : Kind) → kind_at X (end_of (row_at rows i)) ≡ k → All (Given X rows (i + 1)) (offers_by X rows i (row_at rows i) k)
    by_kind Nop e = follows_given (ap (λ k. goes_on X.rule k (row_at rows i).node (row_at rows i).value) e)
    by_kind (Call callee grant accept privileged) e =
        All-append (Given X rows (i + 1)) (enters X callee i (row_at rows i)) _
        (all_each (Given X rows (i + 1)) 0 (node_count X) (enter_at X callee i (row_at rows i)) (λ m low high.
        cond_both (is_entry_of X.program callee m) (enter_row X i (row_at rows i) m ∷ []) [] (All (Given X rows (i + 1)))
        (λ h. All-one (Given X rows (i + 1)) (enter_row X i (row_at rows i) m) (enter i m (omega arith) (ap (λ k. call_enters X.program k m) e ∙ h))) (λ h. All-nil (Given X rows (i + 1)))))
        (all_each (Given X rows (i + 1)) 0 i (return_at X rows i (row_at rows i)) (λ j low high.
        cond_both (joins X (row_at rows i) (row_at rows j)) (backs X i (row_at rows i) j (row_at rows j)) [] (All (Given X rows (i + 1)))
        (λ h. backs_given i j (omega arith) (omega arith) h) (λ h. All-nil (Given X rows (i + 1)))))
    by_kind (Check required) e =
        cond_both (X.rule.pass (row_at rows i).value (row_at rows i).node) (follows X i (row_at rows i)) [] (All (Given X rows (i + 1)))
        (λ h. follows_given (ap (λ k. goes_on X.rule k (row_at rows i).node (row_at rows i).value) e ∙ h)) (λ h. All-nil (Given X rows (i + 1)))
    by_kind Return e =
        all_each (Given X rows (i + 1)) 0 i (call_at X rows i (row_at rows i)) (λ j low high.
        cond_both (joins X (row_at rows j) (row_at rows i)) (backs X j (row_at rows j) i (row_at rows i)) [] (All (Given X rows (i + 1)))
        (λ h. backs_given j i (omega arith) (omega arith) h) (λ h. All-nil (Given X rows (i + 1))))

    -- each row that is offered is given
    pub offers_given : All (Given X rows (i + 1)) (offers X rows i)
    unfolding offers
    offers_given = by_kind (kind_at X (end_of (row_at rows i))) refl

    -- each of these is offered, by what the node does
    follow_by : (c : Fact) (m : ℕ) (k : Kind) → goes_on X.rule k c.node c.value ≡ true → Leads X.edges c.node m → Contains (offers_by X rows i c k) (follow_row X i c m)
    follow_by c m Nop g l = has_map (follow_row X i c) (targets X.edges c.node) m (has_targets X.edges c.node m l)
    follow_by c m (Call callee grant accept privileged) g l = absurd (false≢true g)
    follow_by c m (Check required) g l =
        rw (cond-true (X.rule.pass c.value c.node) (follows X i c) [] g) (has_map (follow_row X i c) (targets X.edges c.node) m (has_targets X.edges c.node m l))
    follow_by c m Return g l = absurd (false≢true g)

    enter_by : (c : Fact) (m : ℕ) (k : Kind) → call_enters X.program k m ≡ true → Contains (offers_by X rows i c k) (enter_row X i c m)
    enter_by c m Nop g = absurd (false≢true g)
    enter_by c m (Call callee grant accept privileged) g =
        Contains-append_left (enters X callee i c) _ (enter_row X i c m)
        (has_each 0 (node_count X) m (enter_at X callee i c) (enter_row X i c m) (omega arith) (entry_node X.program callee m g)
        (rw (cond-true (is_entry_of X.program callee m) (enter_row X i c m ∷ []) [] g) (has_here (enter_row X i c m) [])))
    enter_by c m (Check required) g = absurd (false≢true g)
    enter_by c m Return g = absurd (false≢true g)

    -- a call, worked after the return fact
    call_by : (c : Fact) (j m e : ℕ) (k : Kind) → call_enters X.program k e ≡ true → j < i → joins X c (row_at rows j) ≡ true → Leads X.edges c.node m → Contains (offers_by X rows i c k) (back_row X i c j (row_at rows j) m)
    call_by c j m e Nop g lt h l = absurd (false≢true g)
    call_by c j m e (Call callee grant accept privileged) g lt h l =
        Contains-append_right (enters X callee i c) _ (back_row X i c j (row_at rows j) m)
        (has_each 0 i j (return_at X rows i c) (back_row X i c j (row_at rows j) m) (omega arith) lt
        (rw (cond-true (joins X c (row_at rows j)) (backs X i c j (row_at rows j)) [] h) (has_map (back_row X i c j (row_at rows j)) (targets X.edges c.node) m (has_targets X.edges c.node m l))))
    call_by c j m e (Check required) g lt h l = absurd (false≢true g)
    call_by c j m e Return g lt h l = absurd (false≢true g)

    -- a return, worked after the call fact
    return_by : (x : Fact) (j m : ℕ) (k : Kind) → is_return k ≡ true → j < i → joins X (row_at rows j) x ≡ true → Leads X.edges (row_at rows j).node m → Contains (offers_by X rows i x k) (back_row X j (row_at rows j) i x m)
    return_by x j m Nop r lt h l = absurd (false≢true r)
    return_by x j m (Call callee grant accept privileged) r lt h l = absurd (false≢true r)
    return_by x j m (Check required) r lt h l = absurd (false≢true r)
    return_by x j m Return r lt h l =
        has_each 0 i j (call_at X rows i x) (back_row X j (row_at rows j) i x m) (omega arith) lt
        (rw (cond-true (joins X (row_at rows j) x) (backs X j (row_at rows j) i x) [] h) (has_map (back_row X j (row_at rows j) i x) (targets X.edges (row_at rows j).node) m (has_targets X.edges (row_at rows j).node m l)))

    -- what is given by the rows up to this one is given by those before it, or offered
    abbrev Found : Fact → Type 0
    Found f = Given X rows i f ⊎ Contains (offers X rows i) f

    follow_found : (k m : ℕ) → k < i + 1 → goes_on X.rule (kind_at X (end_of (row_at rows k))) (row_at rows k).node (row_at rows k).value ≡ true → Leads X.edges (row_at rows k).node m → (k ≡ i) ⊎ ((k < i) ⊎ (i < k)) → Found (follow_row X k (row_at rows k) m)
    unfolding offers
    follow_found k m lt g l (inl e) =
        inr (subst (λ k. goes_on X.rule (kind_at X (end_of (row_at rows k))) (row_at rows k).node (row_at rows k).value ≡ true → Leads X.edges (row_at rows k).node m → Contains (offers X rows i) (follow_row X k (row_at rows k) m)) (sym e)
        (follow_by (row_at rows i) m (kind_at X (end_of (row_at rows i)))) g l)
    follow_found k m lt g l (inr (inl below)) = inl (follow k m below g l)
    follow_found k m lt g l (inr (inr above)) = absurd (omega arith)

    enter_found : (k m : ℕ) → k < i + 1 → call_enters X.program (kind_at X (end_of (row_at rows k))) m ≡ true → (k ≡ i) ⊎ ((k < i) ⊎ (i < k)) → Found (enter_row X k (row_at rows k) m)
    unfolding offers
    enter_found k m lt g (inl e) =
        inr (subst (λ k. call_enters X.program (kind_at X (end_of (row_at rows k))) m ≡ true → Contains (offers X rows i) (enter_row X k (row_at rows k) m)) (sym e)
        (enter_by (row_at rows i) m (kind_at X (end_of (row_at rows i)))) g)
    enter_found k m lt g (inr (inl below)) = inl (enter k m below g)
    enter_found k m lt g (inr (inr above)) = absurd (omega arith)

    back_found : (c x m : ℕ) → c < i + 1 → x < i + 1 → joins X (row_at rows c) (row_at rows x) ≡ true → Leads X.edges (row_at rows c).node m → (c ≡ i) ⊎ ((c < i) ⊎ (i < c)) → (x ≡ i) ⊎ ((x < i) ⊎ (i < x))
        → Found (back_row X c (row_at rows c) x (row_at rows x) m)
    unfolding offers
    back_found c x m a b h l (inr (inr above)) at = absurd (omega arith)
    back_found c x m a b h l (inl e) (inr (inr above)) = absurd (omega arith)
    back_found c x m a b h l (inr (inl below)) (inr (inr above)) = absurd (omega arith)
    back_found c x m a b h l (inr (inl below)) (inr (inl under)) = inl (back c x m below under h l)
    back_found c x m a b h l (inl e) (inr (inl under)) =
        inr (subst (λ c. joins X (row_at rows c) (row_at rows x) ≡ true → Leads X.edges (row_at rows c).node m → Contains (offers X rows i) (back_row X c (row_at rows c) x (row_at rows x) m)) (sym e)
        (λ h l. call_by (row_at rows i) x m (row_at rows x).entry (kind_at X (end_of (row_at rows i))) (joins_parts (row_at rows i) (row_at rows x) h).1 under h l) h l)
    back_found c x m a b h l (inr (inl below)) (inl e) =
        inr (subst (λ x. joins X (row_at rows c) (row_at rows x) ≡ true → Contains (offers X rows i) (back_row X c (row_at rows c) x (row_at rows x) m)) (sym e)
        (λ h. return_by (row_at rows i) c m (kind_at X (end_of (row_at rows i))) (joins_returns (row_at rows c) (row_at rows i) h) below h l) h)
    back_found c x m a b h l (inl e) (inl d) =
        let r = subst (λ x. is_return (kind_at X (end_of (row_at rows x))) ≡ true) (d ∙ sym e) (joins_returns (row_at rows c) (row_at rows x) h) in
        absurd (enters_returns X.program (kind_at X (end_of (row_at rows c))) (row_at rows x).entry (joins_parts (row_at rows c) (row_at rows x) h).1 r)

    pub given_offered : {f : Fact} → Given X rows (i + 1) f → Given X rows i f ⊎ Contains (offers X rows i) f
    given_offered (first n h) = inl (first n h)
    given_offered (follow k m lt g l) = follow_found k m lt g l (cases_order k i)
    given_offered (enter k m lt g) = enter_found k m lt g (cases_order k i)
    given_offered (back c x m a b h l) = back_found c x m a b h l (cases_order c i) (cases_order x i)
