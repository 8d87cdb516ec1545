-- What is said of a walk is right, with no word of runs.
use Rattle.std.specs.Prelude.{◌≡◌, ℕ, ◌⊎◌, List, ◌∷◌, ◌++◌, Ok, codes}
use Rattle.model.specs.Lawful.{Lawful}
use Rattle.model.specs.Models.{HistoryTrace, StackTrace, LeavesBad}
use Rattle.model.specs.Program.{Program}
use Rattle.model.specs.Watches.{table_watch}
use Rattle.model.specs.declared.Edge.{Edge}
use Rattle.recipe.specs.Format.{bytes_of}
use Rattle.following.specs.Words.{numbers_in}

-- a text ends in these bytes
abbrev pub EndsIn : List ℕ → List ℕ → Type 0
EndsIn text end = (start : List ℕ) × (text ≡ start ++ end)

-- the end of a text tells whether a list of nodes is a trace, and whether that leaves the watch of the program's rows bad
pub record TellsOf (Trace : List ℕ → Type 0) (p : Program) (ns : List ℕ) (text : List ℕ) : Type 0 where
  pub bad : Trace ns → LeavesBad p (table_watch p.rows) ns → EndsIn text (codes "accepted: a bad run")
  pub good : Trace ns → (LeavesBad p (table_watch p.rows) ns → ⊥) → EndsIn text (codes "accepted: a run, and not a bad one")
  pub none : (Trace ns → ⊥) → EndsIn text (codes " is no step from where the run stands") ⊎ EndsIn text (codes ": an empty list is no run")

-- of a legal file, by the transition system of the rule that is named, and for whatever program and edges the file was written
abbrev pub Right : List ℕ → List (List ℕ) → List ℕ → Type 0
Right bs words text =
    (p : Program) (es : List Edge) (others : List (List ℕ)) (ns : List ℕ) → Lawful p es → bs ≡ bytes_of p es → numbers_in others ≡ Ok ns
    → (words ≡ codes "history" ∷ others → TellsOf (HistoryTrace p es) p ns text) × (words ≡ codes "stack" ∷ others → TellsOf (StackTrace p es) p ns text)
