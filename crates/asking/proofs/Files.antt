-- The file of a linked recipe: all its edges in use count, so it is written with each of them.
use Rattle.std.proofs.Common.{◌≡◌, ℕ, ◌≤◌, List, Ok, Err, Result, IfOk, sym, ap, ◌∙◌, subst, subst₂, arith, Contains}
use Rattle.model.specs.declared.Edge.{Edge}
use Rattle.model.specs.Lawful.{Lawful}
use Rattle.model.specs.Links.{Among}
use Rattle.model.specs.Program.{counted}
use Rattle.model.proofs.Edges.{lawful_counted}
use Rattle.recipe.specs.declared.Recipe.{Recipe}
use Rattle.recipe.specs.declared.grounds.Refusal.{Refusal}
use Rattle.recipe.specs.Recipes.{program, own_edges}
use Rattle.recipe.specs.Writing.{AllCount, FileOf}
use Rattle.recipe.proofs.Standing.{stands}
use Rattle.inquiry.specs.declared.Counts.{Counts}
use Rattle.inquiry.specs.declared.Inquiry.{Inquiry}
use Rattle.inquiry.specs.declared.requests.Request.{Request}
use Rattle.inquiry.specs.Histories.{Opened, after, linked_recipe}
use Rattle.inquiry.specs.Reached.{Reached}
use Rattle.asking.specs.Saved.{LinkedFile}
use Rattle.asking.proofs.Clauses.{asking_law}

module _ (C : Opened) (rs : List Request) (recipe : Recipe) (program_is : C.program ≡ program recipe) (own_is : C.own ≡ own_edges recipe) (i : Inquiry) (table : List Edge) (h : Reached C rs i table) where
  -- the edges in use
  abbrev used : List Edge
  used = (after C rs).edges

  -- are lawful
  lawful : Lawful C.program used
  lawful =
      let few = i.few_places h.fits in
      let places = ap (λ (c : Counts). c.places) h.counts in
      (asking_law C).lawful rs (subst₂ Lawful (sym program_is) (sym own_is) (stands recipe)) (omega arith)

  -- so all count
  counted_is : counted C.program used ≡ used
  counted_is = lawful_counted C.program used lawful

  pub all_count : AllCount (program recipe) used
  all_count = subst (λ p. AllCount p used) program_is (lawful.few_edges, counted_is)

  -- and a file of the recipe with them is that of the linked recipe
  pub linked_file : (bs : List ℕ) → FileOf (program recipe) used bs → LinkedFile C rs bs
  linked_file bs f =
      let table_edges = (asking_law C).table rs in
      let same = f.edges ∙ sym counted_is in
      record {
        legal = f.legal;
        program = f.program ∙ sym program_is;
        edges = λ e had. table_edges.0 e (subst (λ es. Contains es e) same had);
        all_edges = λ e had. subst (λ es. Contains es e) (sym same) (table_edges.1 e had);
      }

  -- so a call that writes them all leaves it
  pub if_linked : (r : Result ℕ Refusal) (written : ℕ → List ℕ) (es : List Edge) → es ≡ used → (AllCount (program recipe) es → IfOk r (λ n. FileOf (program recipe) es (written n))) → IfOk r (λ n. LinkedFile C rs (written n))
  if_linked (Ok n) written es same writes = linked_file (written n) (subst (λ ds. FileOf (program recipe) ds (written n)) same (writes (subst (AllCount (program recipe)) (sym same) all_count)))
  if_linked (Err e) written es same writes = tt
