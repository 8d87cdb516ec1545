-- What links and digs are answered, in the words of edges and of facts.
use Rattle.std.specs.Prelude.{◌≡◌, ℕ, ◌+◌, ◌<◌, ◌≤◌, Bool, true, false, ◌⊎◌, List, length, Ok, Err, Result}
use Rattle.model.specs.declared.Edge.{Edge}
use Rattle.model.specs.Facts.{Setting}
use Rattle.model.specs.Program.{Program, EdgeRules, Leads, counted}
use Rattle.model.specs.Tables.{Search, dug}
use Rattle.recipe.specs.declared.grounds.Refusal.{Refusal}
use Rattle.recipe.specs.declared.grounds.Refusal.TheVariants.{NotAnEdge, EdgeHeld, EdgesFull, InquiryFull}
use Rattle.inquiry.specs.Calls.{answered, link_allowed, dug_from}
use Rattle.inquiry.specs.declared.reports.Dug.{Dug as Finished}
use Rattle.inquiry.specs.declared.requests.Reply.{Reply}
use Rattle.inquiry.specs.declared.requests.Reply.TheVariants.{Linked}

-- a link is answered so among these edges, with so many in use of the places, and a full inquiry or not
pub record LinkAnswer (p : Program) (es : List Edge) (used places : ℕ) (full : Bool) (from to : ℕ) (a : Result Reply Refusal) : Type 0 where
  -- it is accepted where no ground for a refusal holds, and its answer is how many edges there are then
  pub accepts : EdgeRules p (record { from = from; to = to }) → (Leads es from to → ⊥) → used < places → full ≡ false → a ≡ Ok (Linked (used + 1))
  -- and only there
  pub accepted : (reply : Reply) → a ≡ Ok reply → EdgeRules p (record { from = from; to = to }) × (Leads es from to → ⊥) × (used < places) × (full ≡ false) × (reply ≡ Linked (used + 1))
  -- each refusal has its ground
  pub no_edge : a ≡ Err NotAnEdge → EdgeRules p (record { from = from; to = to }) → ⊥
  pub held : a ≡ Err EdgeHeld → Leads es from to
  pub no_place : a ≡ Err EdgesFull → places ≤ used
  pub full_up : a ≡ Err InquiryFull → full ≡ true

-- a dig of k tells how many facts it has finished, of those before it no more than k, and how many are held; fewer only where the table is full, or none is left to work
pub record DigAnswer (k : ℕ) (before after : Search) (d : Finished) : Type 0 where
  pub held : d.held ≡ length after.rows
  pub adds : before.worked + d.finished ≡ after.worked
  pub few : d.finished ≤ k
  pub all : d.finished < k → (after.full ≡ true) ⊎ (length after.rows ≤ after.worked)

-- so are they all
pub record AnswerLaws : Type 0 where
  pub links : (p : Program) (used : List Edge) (places : ℕ) (full : Bool) (from to : ℕ)
      → LinkAnswer p (counted p used) (length used) places full from to (answered (link_allowed p used places full (record { from = from; to = to })) (Linked (length used + 1)))
  pub digs : (X : Setting) (places k : ℕ) (s : Search) → DigAnswer k s (dug X places k s) (dug_from s (dug X places k s))
