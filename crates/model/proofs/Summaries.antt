-- Facts sum up runs: a derivation's trace is the trace of a run, whatever stands below, and every run's top frame is at a yielded fact.
use Rattle.std.proofs.Common.{◌≡◌, ℕ, true, List, [], ◌∷◌, ◌++◌, sym, refl, subst, append_assoc}
use Rattle.model.specs.declared.Frame.{Frame}
use Rattle.model.specs.Access.{call_enters}
use Rattle.model.specs.declared.Point.{Point}
use Rattle.model.specs.Facts.{Setting, Derives, first, follow, Yields, RunIn, FactIsBad, frame_of, kind_at, enter_point, back_point, FactsSumUpRuns}
use Rattle.model.specs.Facts.{enter as derive_enter, back as derive_back}
use Rattle.model.specs.Program.{Leads}
use Rattle.model.specs.Runs.{returns_at, start, pass, enter, back}
use Rattle.model.proofs.Standing.{enters_call}

-- a frame, with the watch's state
abbrev pub point_of : Frame → ℕ → Point
point_of f q = record { node = f.node; value = f.value; state = q }

-- the frames below a call that began at s: each is at a call that gives the beginning of the one above
abbrev pub Under : Setting → Point → List Frame → Type 0
Under X s [] = Unit {0}
Under X s (g ∷ gs) = (a : Point) × (q : ℕ) × Yields X a (point_of g q) × (call_enters X.program (kind_at X (point_of g q)) s.node ≡ true) × (enter_point X (point_of g q) s.node ≡ s) × Under X a gs

module _ (X : Setting) where
  -- what a derivation derives, a run that begins where it does can do, over any frames
  pub gone : {s x : Point} {l b : List ℕ} → Derives X s x l b → (t : List ℕ) (fs : List Frame) → RunIn X (s.node ∷ t) (frame_of s ∷ fs) s.state → RunIn X (l ++ t) (frame_of x ∷ fs) x.state
  gone (first n a) t fs r = r
  gone (follow m d g e) t fs r = pass m (gone d t fs r) g e
  gone (derive_enter m d g) t fs r = r
  gone (derive_back {c = c} {l = l} m to d g e a b) t fs r =
      rw append_assoc (back to (gone e (l ++ t) (frame_of c ∷ fs) (enter m (gone d t fs r) g)) a (enters_call X.program (kind_at X c) m g).0 b)

  -- some run begins where a derivation does
  pub begun : {s x : Point} {l b : List ℕ} → Derives X s x l b → (fs : List Frame) × RunIn X (s.node ∷ b) (frame_of s ∷ fs) s.state
  begun (first n a) = ([], start a)
  begun (follow m d g e) = begun d
  begun (derive_enter {c = c} {b = b} m d g) = let r = begun d in (frame_of c ∷ r.0, enter m (gone d b r.0 r.1) g)
  begun (derive_back m to d g e a b) = begun d

  pub reach : {s x : Point} {l b : List ℕ} → Derives X s x l b → (fs : List Frame) × RunIn X (l ++ b) (frame_of x ∷ fs) x.state
  reach {b = b} d = let r = begun d in (r.0, gone d b r.0 r.1)

  -- a call's fact, and that of a return from where the call led, give the fact of the node after the call
  pub returned : {a c s x : Point} (to : ℕ) → Yields X a c → call_enters X.program (kind_at X c) s.node ≡ true → enter_point X c s.node ≡ s → Yields X s x → returns_at X.program x.node ≡ true → Leads X.edges c.node to → Yields X a (back_point X c x to)
  returned {s = s} {x = x} to y g e z r l =
      let w : Yields X (enter_point X _ s.node) x = subst (λ (p : Point). Yields X p x) (sym e) z in
      (_, _, derive_back s.node to y.2 g w.2 r l)

  -- every run is at a yielded fact, and the frames below stand under its beginning
  pub tell : {t : List ℕ} {f : Frame} {fs : List Frame} {q : ℕ} → RunIn X t (f ∷ fs) q → (s : Point) × Yields X s (point_of f q) × Under X s fs
  tell (start {n} a) = (_, (_, _, first n a), tt)
  tell (pass m r g l) = let h = tell r in (h.0, (_, _, follow m h.1.2 g l), h.2)
  tell (enter {q = q} m r g) = let h = tell r in (_, (_, _, derive_enter m h.1.2 g), (h.0, q, h.1, g, refl, h.2))
  tell (back m r a b l) = let h = tell r in let u = h.2 in (u.0, returned m u.2 u.3 u.4 h.1 a l, u.5)

  -- a run that leaves the watch bad has a top frame, and is at a bad fact
  pub bad_told : {t : List ℕ} {q : ℕ} (fs : List Frame) → RunIn X t fs q → X.watch.bad q ≡ true → FactIsBad X
  bad_told [] r h = elim r [ ]
  bad_told (f ∷ fs) r h = let k = tell r in (_, _, k.1, h)

pub facts_sum_up_runs : FactsSumUpRuns
facts_sum_up_runs X = record {
  reached = reach X;
  told = λ r. let h = tell X r in (h.0, h.1);
  bad_run = λ h. let r = reach X h.2.2 in (_, _, _, r.1, h.3);
  bad_fact = λ h. bad_told X h.1 h.3 h.4;
}
