-- The file of a linked recipe.
use Rattle.std.specs.Prelude.{◌≡◌, ℕ, List, Ok, Err, Result}
use Rattle.model.specs.Links.{Among}
use Rattle.recipe.specs.Bytes.{program_of, edges_of}
use Rattle.recipe.specs.Format.{Legal}
use Rattle.recipe.specs.declared.grounds.Refusal.{Refusal}
use Rattle.inquiry.specs.declared.requests.Request.{Request}
use Rattle.inquiry.specs.Calls.{Allowed}
use Rattle.inquiry.specs.Histories.{Opened, after, linked_recipe}

-- a void inquiry answers as its opening was answered
abbrev pub unless_void : {A : Type 0} → Allowed → Result A Refusal → Result A Refusal
unless_void (Ok u) answer = answer
unless_void (Err e) answer = Err e

-- a legal file, which reads as the recipe's methods, nodes and rows, with exactly the edges of the recipe as these requests have linked it
pub record LinkedFile (C : Opened) (rs : List Request) (bs : List ℕ) : Type 0 where
  pub legal : Legal bs
  pub program : program_of bs ≡ C.program
  pub edges : Among (edges_of bs) (linked_recipe C rs).edges
  pub all_edges : Among (linked_recipe C rs).edges (edges_of bs)
