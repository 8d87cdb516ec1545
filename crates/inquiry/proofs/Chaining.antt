-- Writing a trace: its stretches, one before another, each of the call fact that led to the one behind it.
use Rattle.std.proofs.Common.{◌≡◌, ℕ, ◌-◌, ◌<◌, ◌≤◌, List, [], ◌++◌, length, take, drop, reverse, sym, refl, ap, ◌∙◌, arith}
use Rattle.std.proofs.lemmas.List.{append-nil, append_assoc, reverse-append, reverse-reverse, length-append, length-take-le, take-append-drop, take-take, drop_at, take-append-le}
use Rattle.model.specs.declared.Fact.{Fact}
use Rattle.inquiry.specs.Shapes.{tale_from, stretch_from, back_from}

module _ (rows : List Fact) where
  -- the trace of the row at a place is being written to a front of so many places: what was written from `end` on, and before it there is room for the trace of the row at a place `at`, which is what is left; the rest of the output is as it was
  pub record Chaining (old out : List ℕ) (place nodes at end : ℕ) : Type 0 where
    pub done : List ℕ
    pub told : back_from rows place ≡ reverse done ++ back_from rows at
    pub is : out ≡ take end old ++ (done ++ drop nodes old)
    pub long : end ≡ length (back_from rows at)
    pub up : at ≤ place
    pub within : end ≤ nodes
    pub fits : nodes ≤ length old

  pub chain_start : (old : List ℕ) (place nodes : ℕ) → nodes ≡ length (back_from rows place) → nodes ≤ length old → Chaining old old place nodes place nodes
  chain_start old place nodes long fits = record { done = []; told = refl; is = sym (take-append-drop nodes old); long = long; up = omega arith; within = omega arith; fits = fits }

  module _ {old out : List ℕ} {place nodes at end : ℕ} (c : Chaining old out place nodes at end) where
    abbrev stretch : List ℕ
    stretch = stretch_from rows at

    -- the output has room for the stretch
    pub chain_room : (length stretch ≤ end) × (end ≤ length old)
    chain_room = let long = c.long ∙ length-append stretch (tale_from rows at).below in let within = c.within in let fits = c.fits in (omega arith, omega arith)

    -- a stretch more was written, and the trace of the call fact that led to it is left
    pub chain_more : (new : List ℕ) (next span : ℕ) → span ≡ length stretch → next < at → (tale_from rows at).below ≡ back_from rows next → new ≡ take (end - length stretch) out ++ (reverse stretch ++ drop end out) → Chaining old new place nodes next (end - span)
    chain_more new next span spans less below e =
        let within = c.within in
        let fits = c.fits in
        let up = c.up in
        let size = length-take-le end old (omega arith) in
        let sum = c.long ∙ length-append stretch (tale_from rows at).below in
        let rest = ap length below in
        let before : end - length stretch ≡ end - span = omega arith in
        let front : take (end - length stretch) out ≡ take (end - span) old =
        ap (take (end - length stretch)) c.is ∙ take-append-le (end - length stretch) (take end old) (c.done ++ drop nodes old) (omega arith) ∙ take-take (end - length stretch) end old (omega arith) ∙ ap (λ n. take n old) before in
        let behind : drop end out ≡ c.done ++ drop nodes old = ap (drop end) c.is ∙ drop_at (take end old) (c.done ++ drop nodes old) end size in
        record {
          done = reverse stretch ++ c.done;
          told = c.told ∙ ap (λ xs. reverse c.done ++ (stretch ++ xs)) below ∙ sym (append_assoc (reverse c.done) stretch (back_from rows next))
              ∙ ap (λ xs. (reverse c.done ++ xs) ++ back_from rows next) (sym (reverse-reverse stretch)) ∙ ap (λ xs. xs ++ back_from rows next) (sym (reverse-append (reverse stretch) c.done));
          is = e ∙ (λ i. front i ++ (reverse stretch ++ behind i)) ∙ ap (λ xs. take (end - span) old ++ xs) (sym (append_assoc (reverse stretch) c.done (drop nodes old)));
          long = omega arith;
          up = omega arith;
          within = omega arith;
          fits = fits;
        }

  -- all is written
  pub chain_end : {old out : List ℕ} {place nodes at end : ℕ} → Chaining old out place nodes at end → at ≡ 0 → nodes ≡ length (back_from rows place) → out ≡ reverse (back_from rows place) ++ drop (length (back_from rows place)) old
  chain_end {old} {out} {place} {nodes} {at} {end} c none long =
      let front : end ≡ 0 = c.long ∙ ap (λ k. length (back_from rows k)) none in
      let all : back_from rows place ≡ reverse c.done = c.told ∙ ap (λ k. reverse c.done ++ back_from rows k) none ∙ append-nil (reverse c.done) in
      c.is ∙ ap (λ n. take n old ++ (c.done ++ drop nodes old)) front ∙ (λ i. (sym (reverse-reverse c.done) ∙ ap reverse (sym all)) i ++ drop (long i) old)
