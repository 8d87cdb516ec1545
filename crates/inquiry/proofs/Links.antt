-- What an allowed link comes to: the edges that are in use then, and that the search stays sound with them.
use Rattle.std.proofs.Common.{◌≡◌, ℕ, ◌+◌, ◌≤◌, Bool, true, false, cond, List, ◌++◌, length, take, drop, Ok, Err, sym, refl, ap, ◌∙◌, subst, arith, Contains}
use Rattle.std.proofs.lemmas.List.{length-take-le, take_at}
use Rattle.model.specs.declared.Edge.{Edge}
use Rattle.model.specs.Facts.{Setting}
use Rattle.model.specs.Links.{is_listed, linked, with_edges}
use Rattle.model.specs.Program.{is_edge, counted}
use Rattle.model.specs.Searches.{Sound, unworked}
use Rattle.model.specs.Tables.{Search}
use Rattle.model.proofs.Linking.{links_sound}
use Rattle.model.proofs.Links.{link_laws}
use Rattle.recipe.specs.declared.grounds.Refusal.{Refusal}
use Rattle.inquiry.specs.declared.Inquiry.{Inquiry}
use Rattle.inquiry.specs.Calls.{Allowed, in_use, void_or, dig_answer, link_answer}

-- a call that is not refused is not refused by a test before the others, nor by the others
not_void : (first others : Allowed) → Ok tt ≡ void_or first others → Ok tt ≡ others
not_void (Ok u) others h = h
not_void (Err e) others h = absurd (let z : ◌≡◌ {A = ℕ} 0 1 = cc in omega arith)

held_so : (b : Bool) (others : Allowed) (e : Refusal) → Ok tt ≡ cond b others (Err e) → (b ≡ true) × (Ok tt ≡ others)
held_so true others e h = (refl, h)
held_so false others e h = absurd (let z : ◌≡◌ {A = ℕ} 0 1 = cc in omega arith)

held_not : (b : Bool) (others : Allowed) (e : Refusal) → Ok tt ≡ cond b (Err e) others → (b ≡ false) × (Ok tt ≡ others)
held_not true others e h = absurd (let z : ◌≡◌ {A = ℕ} 0 1 = cc in omega arith)
held_not false others e h = (refl, h)

-- what an allowed link adds is an edge by the rules and none that counts, and the inquiry is not full
pub record Allows (X : Setting) (edges : List Edge) (full : Bool) (e : Edge) : Type 0 where
  pub right : is_edge X.program e ≡ true
  pub new : is_listed (counted X.program edges) e ≡ false
  pub free : full ≡ false

allows : (i : Inquiry) (X : Setting) (edges : List Edge) (full : Bool) (e : Edge) → Ok tt ≡ link_answer i X edges full e → Allows X (in_use i edges) full e
allows i X edges full e h =
    let a = held_so _ _ _ (not_void (dig_answer i X (length edges)) _ h) in
    let b = held_not _ _ _ a.1 in
    let c = held_so _ _ _ b.1 in
    record { right = a.0; new = b.0; free = (held_not _ _ _ c.1).0 }

-- the edges in use after an allowed link
linked_in_use : (X : Setting) (used : ℕ) (edges : List Edge) (e : Edge) → used ≤ length edges → take (used + 1) (linked X.program (take used edges) e ++ drop (used + 1) edges) ≡ linked X.program (take used edges) e
linked_in_use X used edges e within =
    take_at (linked X.program (take used edges) e) (drop (used + 1) edges) (used + 1) (link_laws.longer X.program (take used edges) e ∙ ap (λ n. n + 1) (length-take-le used edges within))

-- the search stays sound with them, all its facts to be worked again
pub link_sound : (i : Inquiry) (X : Setting) (edges es : List Edge) (places : ℕ) (s : Search) (e : Edge) → i.opening.used ≤ length edges
    → X.edges ≡ counted X.program (in_use i edges) → Ok tt ≡ link_answer i X edges s.full e
    → es ≡ linked X.program (in_use i edges) e ++ drop (i.opening.used + 1) edges
    → Sound X places s → Sound (with_edges X (counted X.program (take (i.opening.used + 1) es))) places (unworked s)
link_sound i X edges es places s e within counting ok becomes sound =
    let a = allows i X edges s.full e ok in
    let used = i.opening.used in
    let now = ap (take (used + 1)) becomes ∙ linked_in_use X used edges e within in
    links_sound X (counted X.program (take (used + 1) es)) places s sound a.free
    (λ d had. subst (λ ds. Contains (counted X.program ds) d) (sym now) (link_laws.counts_old X.program (in_use i edges) e a.right a.new d (subst (λ ds. Contains ds d) counting had)))
