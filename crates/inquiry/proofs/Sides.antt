-- Targets laid side by side: what each node has after some of the edges, and how one more is laid.
use Rattle.std.proofs.Common.{◌≡◌, ℕ, zero, suc, ◌+◌, ◌-◌, ◌<◌, ◌≤◌, ◌≢◌, Bool, true, false, cond, eqb, ◌⊎◌, List, [], ◌∷◌, ◌++◌, length, get_or, take, drop, set, None, sym, refl, subst, ap, ◌∙◌, inl, inr, arith, get_or-set_same, get_or-set_other}
use Rattle.std.specs.List.{slice_range}
use Rattle.std.proofs.lemmas.Bool.{cases_lt, cases_eq, cond-true, cond-false, eq-eqb, ne_eqb}
use Rattle.std.proofs.lemmas.List.{take_more, take_more_set, take-set-le, drop-append-le, length-take-le, take_all, append-nil}
use Rattle.std.proofs.lemmas.Slice.{between_is}
use Rattle.model.specs.declared.Edge.{Edge}
use Rattle.model.specs.Program.{Program, no_edge, Rises, counted}
use Rattle.model.specs.Tables.{targets}
use Rattle.model.proofs.Edges.{counted_rising, counted_rules}
use Rattle.recipe.specs.declared.Recipe.{Recipe}
use Rattle.recipe.specs.Recipes.{program}
use Rattle.recipe.proofs.Standing.{stands}
use Rattle.inquiry.specs.declared.laying.Part.{Part}
use Rattle.inquiry.specs.Sides.{no_part, part_at, within, Fits, LaidBy}

-- the node that the edge at a place leaves
abbrev pub from_at : List Edge → ℕ → ℕ
from_at es i = (get_or es i no_edge).from

-- no edge leaves an earlier node than one before it
abbrev pub Ascending : List Edge → Type 0
Ascending es = (i j : ℕ) → i ≤ j → j < length es → from_at es i ≤ from_at es j

ascends : (es : List Edge) → ((i : ℕ) → suc i < length es → from_at es i ≤ from_at es (suc i)) → (d i j : ℕ) → d + i ≡ j → j < length es → from_at es i ≤ from_at es j
ascends es step zero i j e lt = let same : i ≡ j = omega arith in omega (arith, ap (from_at es) same)
ascends es step (suc d) i j e lt =
    let next = step i (omega arith) in
    let rest = ascends es step d (suc i) j (omega arith) lt in
    omega arith

-- the edges that count ascend
pub counted_ascend : (p : Program) (edges : List Edge) → Ascending (counted p edges)
counted_ascend p edges i j le lt = ascends (counted p edges) (λ k below. by (counted_rising p None edges k below)) (j - i) i j (omega arith) lt
  where
    by : {d e : Edge} → Rises d e → d.from ≤ e.from
    by (inl less) = omega arith
    by (inr same) = let s = same.0 in omega arith

-- an edge put behind others adds its target to those of its node, and nothing to another's
targets_by : (es : List Edge) (e : Edge) (n : ℕ) (more : List ℕ) → targets (e ∷ []) n ≡ more → targets (es ++ e ∷ []) n ≡ targets es n ++ more
unfolding targets
targets_by [] e n more is = is
targets_by (d ∷ es) e n more is = by (eqb d.from n) (targets es n) (targets_by es e n more is)
  where
    by : (b : Bool) {xs : List ℕ} (ys : List ℕ) → xs ≡ ys ++ more → cond b (d.to ∷ xs) xs ≡ cond b (d.to ∷ ys) ys ++ more
    by true ys h = ap (λ zs. d.to ∷ zs) h
    by false ys h = h

targets_own : (es : List Edge) (e : Edge) (n : ℕ) → e.from ≡ n → targets (es ++ e ∷ []) n ≡ targets es n ++ e.to ∷ []
unfolding targets
targets_own es e n same = targets_by es e n (e.to ∷ []) (cond-true (eqb e.from n) (e.to ∷ []) [] (eq-eqb e.from n same))

targets_other : (es : List Edge) (e : Edge) (n : ℕ) → (e.from ≡ n → ⊥) → targets (es ++ e ∷ []) n ≡ targets es n
unfolding targets
targets_other es e n differ = targets_by es e n [] (cond-false (eqb e.from n) (e.to ∷ []) [] (ne_eqb e.from n differ)) ∙ append-nil (targets es n)

-- a part that ends where it begins, or before, has nothing
nothing : (laid : List ℕ) (i j : ℕ) → j ≤ i → slice_range laid i j ≡ []
nothing laid i j le = let none : j - i ≡ 0 = omega arith in ap (λ k. take k (drop i laid)) none

-- how things are at a node, after so many of all edges were laid: its part lies among them and has its targets among them; and the edge behind the part leaves a later node
pub record AtNode (all : List Edge) (c : ℕ) (laid : List ℕ) (n : ℕ) (part : Part) : Type 0 where
  pub up : part.first ≤ part.end
  pub done : part.end ≤ c
  pub own : 0 < part.end → from_at all (part.end - 1) ≡ n
  pub past : 0 < part.end → part.end < c → n < from_at all part.end
  pub has : within laid part ≡ targets (take c all) n

-- the same at every node
abbrev pub Laying : List Edge → ℕ → List Part → List ℕ → Type 0
Laying all c parts laid = (n : ℕ) → AtNode all c laid n (part_at parts n)

-- before the first edge no node has any
pub none_laid : (all : List Edge) (c : ℕ) (parts : List Part) (laid : List ℕ) → c ≡ 0 → ((n : ℕ) → part_at parts n ≡ no_part) → Laying all c parts laid
unfolding targets
none_laid all c parts laid none empty n =
    subst (λ k. AtNode all k laid n (part_at parts n)) (sym none)
    (subst (AtNode all 0 laid n) (sym (empty n)) (record {
      up = omega arith;
      done = omega arith;
      own = λ some. absurd (omega arith);
      past = λ some before. absurd (omega arith);
      has = refl;
    }))

-- after the last one each node has its targets, and its part is within so many places
pub all_laid : (all : List Edge) (c : ℕ) (parts : List Part) (laid : List ℕ) → Laying all c parts laid → length all ≤ c → LaidBy all parts laid
all_laid all c parts laid so end n = let h = so n in h.has ∙ ap (λ es. targets es n) (take_all c all end)

pub parts_fit : (all : List Edge) (c places : ℕ) (parts : List Part) (laid : List ℕ) → Laying all c parts laid → c ≤ places → (n : ℕ) → Fits places (part_at parts n)
parts_fit all c places parts laid so few n = let h = so n in let done = h.done in (h.up, omega arith)

-- one more edge is laid
module _ (all : List Edge) (ascending : Ascending all) (c : ℕ) (lt : c < length all) (laid : List ℕ) (room : c < length laid) (e : Edge) (is : get_or all c no_edge ≡ e) where
  left : from_at all c ≡ e.from
  left = ap (λ (d : Edge). d.from) is

  taken : take (c + 1) all ≡ take c all ++ e ∷ []
  taken = take_more all c no_edge lt ∙ ap (λ d. take c all ++ d ∷ []) is

  -- no more at another node
  other : (n : ℕ) (part : Part) → (e.from ≡ n → ⊥) → AtNode all c laid n part → AtNode all (c + 1) (set laid c e.to) n part
  other n part differ h =
      let done = h.done in
      let l = left in
      record {
        up = h.up;
        done = omega arith;
        own = h.own;
        past = λ some before. later some (cases_lt part.end c);
        has = between_is (set laid c e.to) part.first part.end ∙ ap (drop part.first) (take-set-le part.end laid c e.to h.done) ∙ sym (between_is laid part.first part.end)
            ∙ h.has ∙ sym (targets_other (take c all) e n differ) ∙ ap (λ es. targets es n) (sym taken);
      }
    where
      later : 0 < part.end → (part.end < c) ⊎ (c ≤ part.end) → n < from_at all part.end
      later some (inl before) = h.past some before
      later some (inr here) =
          let done = h.done in
          let same : part.end ≡ c = omega arith in
          let own = h.own some in
          let up = ascending (part.end - 1) part.end (omega arith) (omega arith) in
          let at = ap (from_at all) same ∙ left in
          let ne : e.from ≢ n = differ in
          omega arith

  -- one more at its node, behind those that stand there
  behind : (n first : ℕ) → e.from ≡ n → first ≤ c → slice_range laid first c ≡ targets (take c all) n → AtNode all (c + 1) (set laid c e.to) n (record { first = first; end = c + 1 })
  behind n first mine le has =
      let l = left in
      let one : c + 1 - 1 ≡ c = omega arith in
      let full : length (take c all) ≡ c = length-take-le c all (omega arith) in
      record {
        up = omega arith;
        done = omega arith;
        own = λ some. ap (from_at all) one ∙ left ∙ mine;
        past = λ some before. absurd (omega arith);
        has = between_is (set laid c e.to) first (c + 1)
            ∙ ap (drop first) (take_more_set laid c e.to room)
            ∙ drop-append-le first (take c laid) (e.to ∷ []) (let k = length-take-le c laid (omega arith) in omega arith)
            ∙ ap (λ xs. xs ++ e.to ∷ []) (sym (between_is laid first c) ∙ has)
            ∙ sym (targets_own (take c all) e n mine)
            ∙ ap (λ es. targets es n) (sym taken);
      }

  -- the first at its node
  pub fresh : (part : Part) → part.end ≡ 0 → AtNode all c laid e.from part → AtNode all (c + 1) (set laid c e.to) e.from (record { first = c; end = c + 1 })
  fresh part none h = behind e.from c refl (omega arith) (nothing laid c c (omega arith) ∙ sym (nothing laid part.first part.end (omega arith)) ∙ h.has)

  -- a further one: the part ends here, since an edge behind it would leave a later node
  pub further : (part : Part) → 0 < part.end → AtNode all c laid e.from part → AtNode all (c + 1) (set laid c e.to) e.from (record { first = part.first; end = c + 1 })
  further part some h =
      let up = h.up in
      let done = h.done in
      behind e.from part.first refl (omega arith) (ap (slice_range laid part.first) (sym (here (cases_lt part.end c))) ∙ h.has)
    where
      here : (part.end < c) ⊎ (c ≤ part.end) → part.end ≡ c
      here (inl before) =
          let past = h.past some before in
          let up = ascending part.end c (omega arith) lt in
          let l = left in
          absurd (omega arith)
      here (inr at) = let done = h.done in omega arith

  -- at every node
  pub laid_more : (parts : List Part) → e.from < length parts → Laying all c parts laid → (new : Part)
      → AtNode all (c + 1) (set laid c e.to) e.from new
      → Laying all (c + 1) (set parts e.from new) (set laid c e.to)
  laid_more parts node so new mine n = by (cases_eq e.from n)
    where
      by : (e.from ≡ n) ⊎ (e.from ≡ n → ⊥) → AtNode all (c + 1) (set laid c e.to) n (part_at (set parts e.from new) n)
      by (inl same) =
          subst (λ m. AtNode all (c + 1) (set laid c e.to) m (part_at (set parts e.from new) m)) same
          (subst (AtNode all (c + 1) (set laid c e.to) e.from) (sym (get_or-set_same parts e.from new no_part node)) mine)
      by (inr differ) =
          subst (AtNode all (c + 1) (set laid c e.to) n) (sym (get_or-set_other parts e.from n new no_part (λ h. differ (sym h))))
          (other n (part_at parts n) differ (so n))

  -- the same with the numbers as a loop has them
  pub laid_next : (parts : List Part) → e.from < length parts → Laying all c parts laid → (place count first : ℕ) → place ≡ c → count ≡ c + 1
      → ((part_at parts e.from).end ≡ 0 × first ≡ place) ⊎ (0 < (part_at parts e.from).end × first ≡ (part_at parts e.from).first)
      → Laying all count (set parts e.from (record { first = first; end = place + 1 })) (set laid place e.to)
  laid_next parts node so place count first here one pick =
      subst (λ k. Laying all k (set parts e.from (record { first = first; end = place + 1 })) (set laid place e.to)) (sym one)
      (subst (λ k. Laying all (c + 1) (set parts e.from (record { first = first; end = k + 1 })) (set laid k e.to)) (sym here)
      (laid_more parts node so (record { first = first; end = c + 1 }) (by pick)))
    where
      part : Part
      part = part_at parts e.from

      by : (part.end ≡ 0 × first ≡ place) ⊎ (0 < part.end × first ≡ part.first) → AtNode all (c + 1) (set laid c e.to) e.from (record { first = first; end = c + 1 })
      by (inl (none, new)) = subst (λ k. AtNode all (c + 1) (set laid c e.to) e.from (record { first = k; end = c + 1 })) (sym (new ∙ here)) (fresh part none (so e.from))
      by (inr (some, old)) = subst (λ k. AtNode all (c + 1) (set laid c e.to) e.from (record { first = k; end = c + 1 })) (sym old) (further part some (so e.from))

-- an edge that counts leaves one of at most 1,024 nodes
pub leaves_node : (r : Recipe) (edges : List Edge) (i : ℕ) → i < length (counted (program r) edges) → from_at (counted (program r) edges) i < 1024
leaves_node r edges i lt =
    let rules = counted_rules (program r) None edges i lt in
    let leaves = rules.leaves in
    let few = (stands r).few_nodes in
    omega arith
