-- What a walk along a list says of runs: each step of the walk is a step of a run, and a node that is refused is none.
use Rattle.std.proofs.Common.{◌≡◌, ℕ, ◌+◌, ◌-◌, ◌<◌, ◌≤◌, Bool, true, false, cond, ◌&&◌, eqb, ltb, leb, ◌⊎◌, List, [], ◌∷◌, ◌++◌, reverse, length, get_or, take, drop, set, is_ok, Some, None, Ok, Err, Decides, Option, Result, sym, refl, ap, ◌∙◌, subst, ap₂, inl, inr, arith, MatchResult}
use Rattle.std.proofs.lemmas.List.{append-nil, append_assoc, reverse-append, length-set, length-take, length-reverse, length-append, length-take-le, get_or-set_same, take-append-drop, take_at, take_more, take_more_set, length_push}
use Rattle.std.proofs.lemmas.Bool.{false≢true, both_ways, and_parts, and_from, and_left, and_right, le-leb, lt-leb, leb-true, leb-false, cases_lt, cond-true, cond_both}
use Rattle.model.specs.declared.Edge.{Edge}
use Rattle.model.specs.declared.Frame.{Frame}
use Rattle.model.specs.declared.Kind.{Kind}
use Rattle.model.specs.declared.Kind.TheVariants.{Nop, Call, Check, Return}
use Rattle.model.specs.Access.{Rule, call_enters}
use Rattle.model.specs.Agreement.{RunTrace}
use Rattle.model.specs.Program.{Program, node_at, is_return, is_entry_of, Leads}
use Rattle.model.specs.Runs.{Run, start, pass, enter, back, reads, goes_on, is_call}
use Rattle.model.specs.Watches.{Watch}
use Rattle.model.proofs.Listed.{listed_decides}
use Rattle.model.proofs.Determined.{follows_from_trace, run_state}
use Rattle.recipe.specs.declared.grounds.Refusal.{Refusal}
use Rattle.recipe.specs.declared.grounds.Refusal.TheVariants.{NotAStep, StackFull}
use Rattle.walker.specs.declared.stands.Stand.{Stand}
use Rattle.walker.specs.Accepted.{frames_in, Stands, StandsAt, HoldsRun, Refuses, Enough}
use Rattle.walker.specs.Walking.{no_frame, has_edge, step_by, step_from, step_first, step_answer, step_stack, stand_at, placed, Walked, advance_by, replay_from, first_walked, replayed}

-- the test for an edge says what it should
pub has_edge_decides : (es : List Edge) (a b : ℕ) → Decides (has_edge es a b) (Leads es a b)
has_edge_decides es a b = listed_decides es a b

-- one frame more on top
reverse_push : {A : Type 0} (xs : List A) (x : A) → reverse (xs ++ x ∷ []) ≡ x ∷ reverse xs
reverse_push xs x = reverse-append xs (x ∷ [])

pub frames_top : (stack : List Frame) (d : ℕ) → 1 ≤ d → d ≤ length stack → frames_in stack d ≡ get_or stack (d - 1) no_frame ∷ frames_in stack (d - 1)
frames_top stack d low high =
    let e : d ≡ (d - 1) + 1 = omega arith in
    ap (frames_in stack) e ∙ ap reverse (take_more stack (d - 1) no_frame (omega arith)) ∙ reverse_push (take (d - 1) stack) (get_or stack (d - 1) no_frame)

pub frames_set : (stack : List Frame) (d : ℕ) (f : Frame) → 1 ≤ d → d ≤ length stack → frames_in (set stack (d - 1) f) d ≡ f ∷ frames_in stack (d - 1)
frames_set stack d f low high =
    let e : d ≡ (d - 1) + 1 = omega arith in
    ap (frames_in (set stack (d - 1) f)) e ∙ ap reverse (take_more_set stack (d - 1) f (omega arith)) ∙ reverse_push (take (d - 1) stack) f

pub frames_length : (stack : List Frame) (d : ℕ) → d ≤ length stack → length (frames_in stack d) ≡ d
frames_length stack d high = length-reverse (take d stack) ∙ length-take-le d stack high

-- a run with these frames may go on to m, where the top frame is at a node of this kind
abbrev may : Program → List Edge → Rule → Kind → Frame → List Frame → ℕ → Bool
may p es R Nop f fs m = has_edge es f.node m
may p es R (Call callee grant accept privileged) f fs m = is_entry_of p callee m
may p es R (Check required) f fs m = R.pass f.value f.node && has_edge es f.node m
may p es R Return f [] m = false
may p es R Return f (g ∷ gs) m = ltb f.node (length p.nodes) && (is_call (node_at p g.node).kind && has_edge es g.node m)

module _ (p : Program) (es : List Edge) (R : Rule) where
  -- what a run does, it may do
  may_pass : (k : Kind) (f : Frame) (fs : List Frame) (m : ℕ) → goes_on R k f.node f.value ≡ true → has_edge es f.node m ≡ true → may p es R k f fs m ≡ true
  may_pass Nop f fs m g l = l
  may_pass (Call callee grant accept privileged) f fs m g l = absurd (false≢true g)
  may_pass (Check required) f fs m g l = and_from (R.pass f.value f.node) (has_edge es f.node m) g l
  may_pass Return f fs m g l = absurd (false≢true g)

  may_enter : (k : Kind) (f : Frame) (fs : List Frame) (m : ℕ) → call_enters p k m ≡ true → may p es R k f fs m ≡ true
  may_enter Nop f fs m g = absurd (false≢true g)
  may_enter (Call callee grant accept privileged) f fs m g = g
  may_enter (Check required) f fs m g = absurd (false≢true g)
  may_enter Return f fs m g = absurd (false≢true g)

  may_back : (k : Kind) (f g : Frame) (gs : List Frame) (m : ℕ) → (ltb f.node (length p.nodes) && is_return k) ≡ true → is_call (node_at p g.node).kind ≡ true → has_edge es g.node m ≡ true
      → may p es R k f (g ∷ gs) m ≡ true
  may_back Nop f g gs m a b l = absurd (false≢true (and_parts (ltb f.node (length p.nodes)) false a).1)
  may_back (Call callee grant accept privileged) f g gs m a b l = absurd (false≢true (and_parts (ltb f.node (length p.nodes)) false a).1)
  may_back (Check required) f g gs m a b l = absurd (false≢true (and_parts (ltb f.node (length p.nodes)) false a).1)
  may_back Return f g gs m a b l =
      and_from (ltb f.node (length p.nodes)) (is_call (node_at p g.node).kind && has_edge es g.node m) (and_parts (ltb f.node (length p.nodes)) true a).0
      (and_from (is_call (node_at p g.node).kind) (has_edge es g.node m) b l)

module _ (p : Program) (es : List Edge) (R : Rule) (W : Watch) where
  -- a run that came to m started there, or came from a shorter run that may go on to m
  abbrev Came : List ℕ → ℕ → Type 0
  Came t m =
      ((t ≡ []) × (is_entry_of p 0 m ≡ true)) ⊎ ((f : Frame) × (fs : List Frame) × (q : ℕ) × Run p es R W t (f ∷ fs) q × (may p es R (node_at p f.node).kind f fs m ≡ true))

  came : {m : ℕ} {t : List ℕ} {gs : List Frame} {q : ℕ} → Run p es R W (m ∷ t) gs q → Came t m
  came (start a) = inl (refl, a)
  came (pass {n = n} {v = v} {fs = fs} {q = q} m r g l) =
      inr (record { node = n; value = v }, fs, q, r, may_pass p es R (node_at p n).kind (record { node = n; value = v }) fs m g ((has_edge_decides es n m).1 l))
  came (enter {n = n} {v = v} {fs = fs} {q = q} m r g) = inr (record { node = n; value = v }, fs, q, r, may_enter p es R (node_at p n).kind (record { node = n; value = v }) fs m g)
  came (back {x = x} {u = u} {n = n} {v = v} {fs = fs} {q = q} m r a b l) =
      inr (
        record { node = x; value = u },
        record { node = n; value = v } ∷ fs,
        q,
        r,
        may_back p es R (node_at p x).kind (record { node = x; value = u }) (record { node = n; value = v }) fs m a b ((has_edge_decides es n m).1 l),
      )

  -- a trace has a node
  run_some : {t : List ℕ} {fs : List Frame} {q : ℕ} → Run p es R W t fs q → 0 < length t
  run_some (start a) = omega arith
  run_some (pass m r g l) = omega arith
  run_some (enter m r g) = omega arith
  run_some (back m r a b l) = omega arith

  -- a step, if it is one, makes the run longer, with one frame on top of those under it; and if it is none, no run goes there
  abbrev Goes : List Frame → ℕ → List ℕ → ℕ → ℕ → Option (ℕ × Frame) → Type 0
  Goes stack d t q m None = (gs : List Frame) (r : ℕ) → Run p es R W (m ∷ t) gs r → ⊥
  Goes stack d t q m (Some s) = (1 ≤ s.0) × (s.0 ≤ d + 1) × Run p es R W (m ∷ t) (s.1 ∷ frames_in stack (s.0 - 1)) (W.step q (reads p m))

  first_goes : (stack : List Frame) (m : ℕ) → Goes stack 0 [] W.start m (step_first p R m)
  first_goes stack m =
      cond_both (is_entry_of p 0 m) (Some (1, record { node = m; value = R.first m })) None (Goes stack 0 [] W.start m) (λ e. (omega arith, omega arith, start e))
      (λ e gs r run. by (came run) e)
    where
      by : Came [] m → is_entry_of p 0 m ≡ false → ⊥
      by (inl h) e = both_ways (is_entry_of p 0 m) e h.1
      by (inr h) e = let l : 0 < length {A = ℕ} [] = run_some h.3 in omega arith

  -- the step from the frames of a run
  module _ (stack : List Frame) (d : ℕ) (low : 1 ≤ d) (high : d ≤ length stack) (t : List ℕ) (q : ℕ) (run : Run p es R W t (frames_in stack d) q) (m : ℕ) where
    abbrev top_in : Frame
    top_in = get_or stack (d - 1) no_frame

    abbrev below_in : Frame
    below_in = get_or stack (d - 2) no_frame

    abbrev rest_in : List Frame
    rest_in = frames_in stack (d - 1)

    here : Run p es R W t (top_in ∷ rest_in) q
    here = subst (λ fs. Run p es R W t fs q) (frames_top stack d low high) run

    -- where it may not go, no run goes
    stuck : may p es R (node_at p top_in.node).kind top_in rest_in m ≡ false → (gs : List Frame) (r : ℕ) → Run p es R W (m ∷ t) gs r → ⊥
    stuck off gs r longer = by (came longer)
      where
        by : Came t m → ⊥
        by (inl h) = let l = run_some run in let z = ap length h.0 in omega arith
        by (inr h) =
            let e : h.0 ∷ h.1 ≡ top_in ∷ rest_in = (follows_from_trace p es R W t (h.0 ∷ h.1) (top_in ∷ rest_in) h.2 q h.3 here).0 in
            let a : h.0 ≡ top_in = cc in
            let b : h.1 ≡ rest_in = cc in
            both_ways (may p es R (node_at p top_in.node).kind top_in rest_in m) off (ap₂ (λ f fs. may p es R (node_at p f.node).kind f fs m) (sym a) (sym b) ∙ h.4)

    rest_below : 2 ≤ d → rest_in ≡ below_in ∷ frames_in stack (d - 2)
    rest_below two =
        let e : d - 1 - 1 ≡ d - 2 = omega arith in
        frames_top stack (d - 1) (omega arith) (omega arith) ∙ ap (λ k. get_or stack k no_frame ∷ frames_in stack k) e

    -- the test of the step at a return is the test of the frames
    may_return : may p es R Return top_in rest_in m ≡ (ltb top_in.node (length p.nodes) && (leb 2 d && (is_call (node_at p below_in.node).kind && has_edge es below_in.node m)))
    may_return = by (cases_lt d 2)
      where
        by : (d < 2) ⊎ (2 ≤ d) → may p es R Return top_in rest_in m ≡ (ltb top_in.node (length p.nodes) && (leb 2 d && (is_call (node_at p below_in.node).kind && has_edge es below_in.node m)))
        by (inl h) =
            let e : d - 1 ≡ 0 = omega arith in
            ap (λ k. may p es R Return top_in (frames_in stack k) m) e
            ∙ sym (and_right (ltb top_in.node (length p.nodes)) (leb 2 d && (is_call (node_at p below_in.node).kind && has_edge es below_in.node m))
            (and_left (leb 2 d) (is_call (node_at p below_in.node).kind && has_edge es below_in.node m) (lt-leb 2 d h)))
        by (inr h) = ap (λ fs. may p es R Return top_in fs m) (rest_below h) ∙ ap (λ b. ltb top_in.node (length p.nodes) && (b && (is_call (node_at p below_in.node).kind && has_edge es below_in.node m))) (sym (le-leb 2 d h))

    by_kind : (k : Kind) → (node_at p top_in.node).kind ≡ k → Goes stack d t q m (step_by p es R k top_in below_in d m)
    by_kind Nop e =
        cond_both (has_edge es top_in.node m) (Some (d, record { node = m; value = top_in.value })) None (Goes stack d t q m)
        (λ h. (low, omega arith, pass m here (ap (λ k. goes_on R k top_in.node top_in.value) e) ((has_edge_decides es top_in.node m).0 h)))
        (λ h. stuck (ap (λ k. may p es R k top_in rest_in m) e ∙ h))
    by_kind (Call callee grant accept privileged) e =
        cond_both (is_entry_of p callee m) (Some (d + 1, record { node = m; value = R.enter top_in.value top_in.node m })) None (Goes stack d t q m)
        (λ h. let a : d ≡ d + 1 - 1 = omega arith in (
          omega arith,
          omega arith,
          subst (λ fs. Run p es R W (m ∷ t) (record { node = m; value = R.enter top_in.value top_in.node m } ∷ fs) (W.step q (reads p m))) (sym (frames_top stack d low high) ∙ ap (frames_in stack) a)
              (enter m here (ap (λ k. call_enters p k m) e ∙ h)),
        ))
        (λ h. stuck (ap (λ k. may p es R k top_in rest_in m) e ∙ h))
    by_kind (Check required) e =
        cond_both (R.pass top_in.value top_in.node && has_edge es top_in.node m) (Some (d, record { node = m; value = top_in.value })) None (Goes stack d t q m)
        (λ h. let c = and_parts (R.pass top_in.value top_in.node) (has_edge es top_in.node m) h in
        (low, omega arith, pass m here (ap (λ k. goes_on R k top_in.node top_in.value) e ∙ c.0) ((has_edge_decides es top_in.node m).0 c.1)))
        (λ h. stuck (ap (λ k. may p es R k top_in rest_in m) e ∙ h))
    by_kind Return e =
        cond_both (ltb top_in.node (length p.nodes) && (leb 2 d && (is_call (node_at p below_in.node).kind && has_edge es below_in.node m)))
        (Some (d - 1, record { node = m; value = R.back below_in.value below_in.node top_in.value top_in.node })) None (Goes stack d t q m)
        (λ h. let a = and_parts (ltb top_in.node (length p.nodes)) (leb 2 d && (is_call (node_at p below_in.node).kind && has_edge es below_in.node m)) h in
        let b = and_parts (leb 2 d) (is_call (node_at p below_in.node).kind && has_edge es below_in.node m) a.1 in
        let c = and_parts (is_call (node_at p below_in.node).kind) (has_edge es below_in.node m) b.1 in
        let two = leb-true 2 d b.0 in
        let k : d - 2 ≡ d - 1 - 1 = omega arith in (
          omega arith,
          omega arith,
          subst (λ j. Run p es R W (m ∷ t) (record { node = m; value = R.back below_in.value below_in.node top_in.value top_in.node } ∷ frames_in stack j) (W.step q (reads p m))) k
              (back m (subst (λ fs. Run p es R W t (top_in ∷ fs) q) (rest_below two) here) (and_from (ltb top_in.node (length p.nodes)) (is_return (node_at p top_in.node).kind) a.0 (ap is_return e)) c.0
              ((has_edge_decides es below_in.node m).0 c.1)),
        ))
        (λ h. stuck (ap (λ k. may p es R k top_in rest_in m) e ∙ may_return ∙ h))

    step_goes : Goes stack d t q m (step_from p es R stack d m)
    step_goes =
        subst (Goes stack d t q m)
        (sym (cond-true (leb 1 d && leb d (length stack)) (step_by p es R (node_at p top_in.node).kind top_in below_in d m) None (and_from (leb 1 d) (leb d (length stack)) (le-leb 1 d low) (le-leb d (length stack) high))))
        (by_kind (node_at p top_in.node).kind refl)

  -- a run has a frame
  run_deep : {t : List ℕ} {fs : List Frame} {q : ℕ} → Run p es R W t fs q → 0 < length fs
  run_deep (start a) = omega arith
  run_deep (pass m r g l) = omega arith
  run_deep (enter m r g) = omega arith
  run_deep (back m r a b l) = omega arith

  -- one node more: what the answer to its step says, where the nodes before it are a trace
  module _ (ns front ms : List ℕ) (m place : ℕ) (split : front ++ m ∷ ms ≡ ns) (long : length front ≡ place) where
    cut_before : take place ns ≡ front
    cut_before = ap (take place) (sym split) ∙ take_at front (m ∷ ms) place long

    cut_after : take (place + 1) ns ≡ front ++ m ∷ []
    cut_after = ap (take (place + 1)) (sym split ∙ sym (append_assoc front (m ∷ []) ms)) ∙ take_at (front ++ m ∷ []) ms (place + 1) (length_push front m ∙ ap (λ k. k + 1) long)

    after : (stack : List Frame) (d q : ℕ) → d ≤ length stack → (0 < place → HoldsRun p es R W front stack) → (o : Option (ℕ × Frame)) → Goes stack d (reverse front) q m o
        → MatchResult (step_answer p W o (length stack) q m place) (Stands p es R W (front ++ m ∷ []) (step_stack o stack)) (Refuses p es R W ns (step_stack o stack))
    after stack d q high so_far None h = (
      λ l. subst (λ t. HoldsRun p es R W t stack) (sym cut_before) (so_far l),
      λ r. h r.0 r.1 (subst (λ t. Run p es R W t r.0 r.1) (ap reverse cut_after ∙ reverse_push front m) r.2),
    )
    after stack d q high so_far (Some s) h = by (leb s.0 (length stack)) refl
      where
        by : (b : Bool) → leb s.0 (length stack) ≡ b
            → MatchResult (cond b (Ok (stand_at W s.0 s.1 (W.step q (reads p m)))) (Err (StackFull place))) (Stands p es R W (front ++ m ∷ []) (cond b (set stack (s.0 - 1) s.1) stack)) (Refuses p es R W ns (cond b (set stack (s.0 - 1) s.1) stack))
        by true e =
            let low : 1 ≤ s.0 = h.0 in
            let l = leb-true s.0 (length stack) e in
            let k : s.0 - 1 < length stack = omega arith in
            let run : Run p es R W (reverse (front ++ m ∷ [])) (frames_in (set stack (s.0 - 1) s.1) s.0) (W.step q (reads p m)) = subst (λ t. Run p es R W t (frames_in (set stack (s.0 - 1) s.1) s.0) (W.step q (reads p m))) (sym (reverse_push front m))
            (subst (λ fs. Run p es R W (m ∷ reverse front) fs (W.step q (reads p m))) (sym (frames_set stack s.0 s.1 h.0 l)) h.2) in
            record {
              run = run;
              deep = subst (λ j. s.0 ≤ j) (sym (length-set stack (s.0 - 1) s.1)) l;
              top = ap (λ f. f.value) (sym (get_or-set_same stack (s.0 - 1) s.1 no_frame k));
              state = sym (run_state p es R W run);
              bad = refl;
            }
        by false e =
            let low : 1 ≤ s.0 = h.0 in
            let near : s.0 ≤ d + 1 = h.1 in
            let l = leb-false s.0 (length stack) e in
            let k = frames_length stack (s.0 - 1) (omega arith) in
            let n = ap length (sym split) ∙ length-append front (m ∷ ms) in (
              omega arith,
              λ l. subst (λ t. HoldsRun p es R W t stack) (sym cut_before) (so_far l),
              s.1 ∷ frames_in stack (s.0 - 1),
              W.step q (reads p m),
              subst (λ t. Run p es R W t (s.1 ∷ frames_in stack (s.0 - 1)) (W.step q (reads p m))) (sym (ap reverse cut_after ∙ reverse_push front m)) h.2,
              omega arith,
            )

    advance : (a : Result Stand Refusal) (stack : List Frame) → MatchResult a (Stands p es R W front stack) (Refuses p es R W ns stack)
        → MatchResult (advance_by p es R W a stack m place).at (Stands p es R W (front ++ m ∷ []) (advance_by p es R W a stack m place).stack) (Refuses p es R W ns (advance_by p es R W a stack m place).stack)
    advance (Ok s) stack h =
        let high : s.depth ≤ length stack = h.deep in
        let some = run_deep h.run in
        let k = frames_length stack s.depth high in
        after stack s.depth s.state high (λ _. (s.depth, s.state, (h.run, high))) (step_from p es R stack s.depth m)
        (step_goes stack s.depth (omega arith) high (reverse front) s.state h.run m)
    advance (Err e) stack h = h

  -- the rest of a list, after a front of it
  rest_told : (ms ns front : List ℕ) (place : ℕ) (w : Walked) → front ++ ms ≡ ns → length front ≡ place → MatchResult w.at (Stands p es R W front w.stack) (Refuses p es R W ns w.stack)
      → MatchResult (replay_from p es R W ms place w).at (Stands p es R W ns (replay_from p es R W ms place w).stack) (Refuses p es R W ns (replay_from p es R W ms place w).stack)
  unfolding replay_from
  rest_told [] ns front place w split long h = subst (λ f. MatchResult w.at (Stands p es R W f w.stack) (Refuses p es R W ns w.stack)) (sym (append-nil front) ∙ split) h
  rest_told (m ∷ ms) ns front place w split long h =
      rest_told ms ns (front ++ m ∷ []) (place + 1) (advance_by p es R W w.at w.stack m place) (append_assoc front (m ∷ []) ms ∙ split) (length_push front m ∙ ap (λ k. k + 1) long)
      (advance ns front ms m place split long w.at w.stack h)

  pub told : (ns : List ℕ) (stack : List Frame) → MatchResult (replayed p es R W ns stack).at (Stands p es R W ns (replayed p es R W ns stack).stack) (Refuses p es R W ns (replayed p es R W ns stack).stack)
  told [] stack = (λ l. absurd (omega arith), λ r. let l : 0 < length {A = ℕ} [] = run_some r.2 in omega arith)
  told (m ∷ ms) stack =
      rest_told ms (m ∷ ms) (m ∷ []) 1 (first_walked p R W m stack) refl refl
      (after (m ∷ ms) [] ms m 0 refl refl stack 0 W.start (omega arith) (λ l. absurd (omega arith)) (step_first p R m) (first_goes stack m))

  -- a step keeps the stack's length, and so does a list of them
  step_kept : (o : Option (ℕ × Frame)) (stack : List Frame) → length (step_stack o stack) ≡ length stack
  step_kept None stack = refl
  step_kept (Some s) stack = cond_both (leb s.0 (length stack)) (set stack (s.0 - 1) s.1) stack (λ x. length x ≡ length stack) (λ _. length-set stack (s.0 - 1) s.1) (λ _. refl)

  advance_kept : (a : Result Stand Refusal) (stack : List Frame) (m place : ℕ) → length (advance_by p es R W a stack m place).stack ≡ length stack
  advance_kept (Ok s) stack m place = step_kept (step_from p es R stack s.depth m) stack
  advance_kept (Err e) stack m place = refl

  rest_kept : (ms : List ℕ) (place : ℕ) (w : Walked) → length (replay_from p es R W ms place w).stack ≡ length w.stack
  unfolding replay_from
  rest_kept [] place w = refl
  rest_kept (m ∷ ms) place w = rest_kept ms (place + 1) (advance_by p es R W w.at w.stack m place) ∙ advance_kept w.at w.stack m place

  kept : (ns : List ℕ) (stack : List Frame) → length (replayed p es R W ns stack).stack ≡ length stack
  kept [] stack = refl
  kept (m ∷ ms) stack = rest_kept ms 1 (first_walked p R W m stack) ∙ step_kept (step_first p R m) stack

  -- a step's answer says its place, which a list sets
  at_place : (o : Option (ℕ × Frame)) (room q m place : ℕ) (P : Stand → Type 0) (Q : Refusal → Type 0) → MatchResult (step_answer p W o room q m place) P Q → MatchResult (step_answer p W o room q m 0) P (λ e. Q (placed e place))
  at_place None room q m place P Q h = h
  at_place (Some s) room q m place P Q h = by (leb s.0 room) h
    where
      by : (b : Bool) → MatchResult (cond b (Ok (stand_at W s.0 s.1 (W.step q (reads p m)))) (Err (StackFull place))) P Q
          → MatchResult (cond b (Ok (stand_at W s.0 s.1 (W.step q (reads p m)))) (Err (StackFull 0))) P (λ e. Q (placed e place))
      by true h = h
      by false h = h

  -- an answer and a stack that are those of the first step, and of a step from where a run stands
  pub first_told : (m : ℕ) (stack last : List Frame) (a : Result Stand Refusal) → a ≡ step_answer p W (step_first p R m) (length stack) W.start m 0 → last ≡ step_stack (step_first p R m) stack
      → MatchResult a (Stands p es R W (m ∷ []) last) (Refuses p es R W (m ∷ []) last)
  first_told m stack last a answer frames =
      subst (λ b. MatchResult b (Stands p es R W (m ∷ []) last) (Refuses p es R W (m ∷ []) last)) (sym answer)
      (subst (λ fs. MatchResult (step_answer p W (step_first p R m) (length stack) W.start m 0) (Stands p es R W (m ∷ []) fs) (Refuses p es R W (m ∷ []) fs)) (sym frames)
      (after (m ∷ []) [] [] m 0 refl refl stack 0 W.start (omega arith) (λ l. absurd (omega arith)) (step_first p R m) (first_goes stack m)))

  pub step_told : (d q m : ℕ) (stack last : List Frame) (a : Result Stand Refusal) → a ≡ step_answer p W (step_from p es R stack d m) (length stack) q m 0 → last ≡ step_stack (step_from p es R stack d m) stack
      → (ns : List ℕ) → StandsAt p es R W ns stack d q → MatchResult a (Stands p es R W (ns ++ m ∷ []) last) (λ e. Refuses p es R W (ns ++ m ∷ []) last (placed e (length ns)))
  step_told d q m stack last a answer frames ns at =
      let high : d ≤ length stack = at.1 in
      let some = run_deep at.0 in
      let k = frames_length stack d high in
      let o = step_from p es R stack d m in
      subst (λ b. MatchResult b (Stands p es R W (ns ++ m ∷ []) last) (λ e. Refuses p es R W (ns ++ m ∷ []) last (placed e (length ns)))) (sym answer)
      (subst (λ fs. MatchResult (step_answer p W o (length stack) q m 0) (Stands p es R W (ns ++ m ∷ []) fs) (λ e. Refuses p es R W (ns ++ m ∷ []) fs (placed e (length ns)))) (sym frames)
      (at_place o (length stack) q m (length ns) (Stands p es R W (ns ++ m ∷ []) (step_stack o stack)) (Refuses p es R W (ns ++ m ∷ []) (step_stack o stack))
      (after (ns ++ m ∷ []) ns [] m (length ns) refl refl stack d q high (λ _. (d, q, at)) o (step_goes stack d (omega arith) high (reverse ns) q at.0 m))))

  -- a step that was made: the new top frame is in its place, and the answer is of that frame
  pub step_made : (d q m e : ℕ) (f : Frame) (stack last : List Frame) (depth : ℕ) (s : Stand) → step_from p es R stack d m ≡ Some (e, f) → f.node ≡ m → 1 ≤ e → e ≤ length stack → last ≡ set stack (e - 1) f → depth ≡ e
      → s ≡ stand_at W depth (get_or last (depth - 1) no_frame) (W.step q (reads p (get_or last (depth - 1) no_frame).node))
      → (Ok s ≡ step_answer p W (step_from p es R stack d m) (length stack) q m 0) × (last ≡ step_stack (step_from p es R stack d m) stack)
      × ((ns : List ℕ) → StandsAt p es R W ns stack d q → Stands p es R W (ns ++ m ∷ []) last s)
  step_made d q m e f stack last depth s goes there low fits written deep stands =
      let near : e - 1 < length stack = omega arith in
      let room = le-leb e (length stack) fits in
      let top : get_or last (depth - 1) no_frame ≡ f = ap₂ (λ fs k. get_or fs (k - 1) no_frame) written deep ∙ get_or-set_same stack (e - 1) f no_frame near in
      let made : s ≡ stand_at W e f (W.step q (reads p m)) = stands ∙ ap₂ (λ k g. stand_at W k g (W.step q (reads p g.node))) deep top ∙ ap (λ n. stand_at W e f (W.step q (reads p n))) there in
      let answer : Ok s ≡ step_answer p W (step_from p es R stack d m) (length stack) q m 0 =
      ap Ok made ∙ sym (ap (λ o. step_answer p W o (length stack) q m 0) goes ∙ cond-true (leb e (length stack)) (Ok (stand_at W e f (W.step q (reads p m)))) (Err (StackFull 0)) room) in
      let frames : last ≡ step_stack (step_from p es R stack d m) stack = written ∙ sym (ap (λ o. step_stack o stack) goes ∙ cond-true (leb e (length stack)) (set stack (e - 1) f) stack room) in
      (answer, frames, step_told d q m stack last (Ok s) answer frames)

  -- the nodes that a run came to first are the trace of a run
  shorter : (t u : List ℕ) (fs : List Frame) (q : ℕ) → 0 < length u → Run p es R W (t ++ u) fs q → (gs : List Frame) × (r : ℕ) × Run p es R W u gs r
  shorter [] u fs q l r = (fs, q, r)
  shorter (m ∷ t) u fs q l r = by (λ gs k s. shorter t u gs k l s) (came r)
    where
      by : ((gs : List Frame) (k : ℕ) → Run p es R W (t ++ u) gs k → (hs : List Frame) × (r : ℕ) × Run p es R W u hs r) → Came (t ++ u) m → (hs : List Frame) × (r : ℕ) × Run p es R W u hs r
      by go (inl h) = let a = ap length h.0 in let b = length-append t u in absurd (omega arith)
      by go (inr h) = go (h.0 ∷ h.1) h.2 h.3

  trace_front : (ns : List ℕ) (i : ℕ) → RunTrace p es R W ns → RunTrace p es R W (take (i + 1) ns)
  trace_front ns i r =
      let a = run_some r.2 in
      let b = length-reverse ns in
      let c = length-reverse (take (i + 1) ns) in
      let d = length-take (i + 1) ns in
      shorter (reverse (drop (i + 1) ns)) (reverse (take (i + 1) ns)) r.0 r.1 (omega arith)
      (subst (λ t. Run p es R W t r.0 r.1) (ap reverse (sym (take-append-drop (i + 1) ns)) ∙ reverse-append (take (i + 1) ns) (drop (i + 1) ns)) r.2)

  -- with enough stack an answer that is told so decides
  decides : (ns : List ℕ) (stack : List Frame) (a : Result Stand Refusal) → MatchResult a (Stands p es R W ns stack) (Refuses p es R W ns stack) → Enough p es R W ns (length stack) → Decides (is_ok a) (RunTrace p es R W ns)
  decides ns stack (Ok s) h enough = (λ _. (frames_in stack s.depth, s.state, h.run), λ _. refl)
  decides ns stack (Err (NotAStep i)) h enough = (λ e. absurd (false≢true e), λ r. absurd (h.1 (trace_front ns i r)))
  decides ns stack (Err (StackFull i)) h enough =
      let a = enough (i + 1) h.2 h.3 h.4 in
      let b : length stack < length h.2 = h.5 in
      absurd (omega arith)
  decides ns stack (Err _) h enough = absurd h

  pub accepts : (ns : List ℕ) (stack : List Frame) → Enough p es R W ns (length stack) → Decides (is_ok (replayed p es R W ns stack).at) (RunTrace p es R W ns)
  accepts ns stack enough =
      decides ns (replayed p es R W ns stack).stack (replayed p es R W ns stack).at (told ns stack) (subst (Enough p es R W ns) (sym (kept ns stack)) enough)

  -- a run has no more frames than nodes in its trace, so a stack of as many places as a list has nodes is long enough for it
  pub few_frames : {t : List ℕ} {fs : List Frame} {q : ℕ} → Run p es R W t fs q → length fs ≤ length t
  few_frames (start a) = omega arith
  few_frames (pass m r g l) = omega (arith, few_frames r)
  few_frames (enter m r g) = omega (arith, few_frames r)
  few_frames (back m r a b l) = omega (arith, few_frames r)

  pub enough_room : (ns : List ℕ) (room : ℕ) → length ns ≤ room → Enough p es R W ns room
  enough_room ns room fits k fs q r = let few = few_frames r in let a = length-reverse (take k ns) in let b = length-take k ns in omega arith

  -- an answer and a stack that are those of the walk
  module _ (ns : List ℕ) (stack : List Frame) (a : Result Stand Refusal) (last : List Frame) (answer : a ≡ (replayed p es R W ns stack).at) (frames : last ≡ (replayed p es R W ns stack).stack) where
    pub told_so : MatchResult a (Stands p es R W ns last) (Refuses p es R W ns last)
    told_so =
        subst (λ b. MatchResult b (Stands p es R W ns last) (Refuses p es R W ns last)) (sym answer)
        (subst (λ fs. MatchResult (replayed p es R W ns stack).at (Stands p es R W ns fs) (Refuses p es R W ns fs)) (sym frames) (told ns stack))

    pub accepts_so : Enough p es R W ns (length stack) → Decides (is_ok a) (RunTrace p es R W ns)
    accepts_so enough = subst (λ b. Decides (is_ok b) (RunTrace p es R W ns)) (sym answer) (accepts ns stack enough)
