-- What an inquiry stands for: the state that its table holds.
use Rattle.std.specs.Prelude.{◌≡◌, ℕ, ◌<◌, ◌≤◌, Bool, true, false, List, take, drop, Option, MatchOption}
use Rattle.std.specs.Slice.Iter.{iter_rest}
use Rattle.model.specs.Access.{Rule}
use Rattle.model.specs.Facts.{Setting}
use Rattle.model.specs.Program.{Program}
use Rattle.model.specs.Watches.{Watch}
use Rattle.recipe.specs.Sequences.{left_in_list}
use Rattle.rules.specs.Subjects.{setting_of}
use Rattle.model.specs.Tables.{Search, row_at, targets}
use Rattle.inquiry.specs.declared.Inquiry.{Inquiry}
use Rattle.inquiry.specs.declared.leading.Sought.{Sought as SoughtTargets}
use Rattle.inquiry.specs.declared.leading.Targets.{Targets}
use Rattle.inquiry.specs.declared.leading.Targets.TheVariants.{Laid, Sought}
use Rattle.inquiry.specs.declared.placed.Placed.{Placed}
use Rattle.inquiry.specs.declared.scene.Scene.{Scene}

-- the state that an inquiry holds: the rows are the first places of its table
abbrev pub state_of : Inquiry → Search
state_of t = record { rows = take t.held t.facts.now; worked = t.worked; full = t.full }

-- a fact with its place is the row that the table holds there
abbrev pub IsRow : Inquiry → Placed → Type 0
IsRow t p = (p.at < t.held) × (row_at t.facts.now p.at ≡ p.fact)

-- an inquiry has grown: its table is the same lent memory, what was held stays, and places past what is held now are untouched; it is still of the same opening
pub record Grown (before after : Inquiry) : Type 0 where
  pub same : after.facts.ghost_name ≡ before.facts.ghost_name
  pub places : after.places ≡ before.places
  pub more : before.held ≤ after.held
  pub kept : take before.held after.facts.now ≡ take before.held before.facts.now
  pub rest : drop after.held after.facts.now ≡ drop after.held before.facts.now
  pub opening : after.opening ≡ before.opening
  pub fits : after.fits ≡ before.fits

-- an inquiry has kept its facts: its table is the same lent memory with the same content, and as many places of it may be used; and the answer of its opening stands
pub record Kept (before after : Inquiry) : Type 0 where
  pub same : after.facts.ghost_name ≡ before.facts.ghost_name
  pub table : after.facts.now ≡ before.facts.now
  pub places : after.places ≡ before.places
  pub fits : after.fits ≡ before.fits

-- the setting of what an inquiry is lent
abbrev pub scene_of : {R W : Type 0} → (R → Program → Rule) → (W → Watch) → Scene R W → Setting
scene_of meaning watching lent = setting_of meaning watching lent.on.now lent.edges.now

-- the nodes to which the edges of a node lead that are left to go through: those of the edges that are left, where they are sought
abbrev pub left_sought : SoughtTargets → List ℕ
left_sought s = targets (left_in_list s.edges) s.node

abbrev pub left_targets : Targets → List ℕ
left_targets (Laid laid) = iter_rest laid
left_targets (Sought s) = left_sought s

-- the first number from one on, before another, that passes a test, if any does
abbrev pub FirstFrom : (ℕ → Bool) → ℕ → ℕ → Option ℕ → Type 0
FirstFrom test from upto found =
    MatchOption found ((k : ℕ) → from ≤ k → k < upto → test k ≡ false)
    (λ j. (from ≤ j) × (j < upto) × (test j ≡ true) × ((k : ℕ) → from ≤ k → k < j → test k ≡ false))
