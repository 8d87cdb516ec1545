-- What one request leaves of an inquiry and its tables: the contract of the function that makes one. Nothing that a caller is promised rests on it.
use Rattle.std.specs.Prelude.{◌≡◌, ℕ, ◌≤◌, List, [], ◌∷◌, ◌++◌, length, drop, Ok, Err, Result}
use Rattle.model.specs.declared.Edge.{Edge}
use Rattle.model.specs.Access.{Rule}
use Rattle.model.specs.Program.{Program}
use Rattle.model.specs.Watches.{Watch}
use Rattle.recipe.specs.declared.grounds.Refusal.{Refusal}
use Rattle.rules.specs.declared.subject.Subject.{Subject}
use Rattle.inquiry.specs.declared.Inquiry.{Inquiry}
use Rattle.inquiry.specs.declared.requests.Request.{Request}
use Rattle.inquiry.specs.declared.requests.Reply.{Reply}
use Rattle.inquiry.specs.Histories.{Opened, opened_on, output_by, after, asked}
use Rattle.inquiry.specs.Reached.{Reached}

-- some requests were carried out since the opening, at `first` and `lent`: the inquiry is where they lead, and no place was touched past what is in use
pub record Carried (C : Opened) (rs : List Request) (first : Inquiry) (lent : List Edge) (i : Inquiry) (table : List Edge) : Type 0 where
  pub reached : Reached C rs i table
  pub same : i.facts.ghost_name ≡ first.facts.ghost_name
  pub more : first.held ≤ i.held
  pub more_used : length C.own ≤ i.opening.used
  pub facts_rest : drop i.held i.facts.now ≡ drop i.held first.facts.now
  pub edges_rest : drop i.opening.used table ≡ drop i.opening.used lent

-- a void inquiry leaves everything as it was, and refuses as its opening was refused
pub record Void (e : Refusal) (first : Inquiry) (lent : List Edge) (blank : List ℕ) (i : Inquiry) (table : List Edge) (output : List ℕ) : Type 0 where
  pub fits : i.fits ≡ Err e
  pub facts : i.facts.now ≡ first.facts.now
  pub same : i.facts.ghost_name ≡ first.facts.ghost_name
  pub edges : table ≡ lent
  pub written : output ≡ blank

-- a request was made: it is answered, and leaves an open inquiry and the output, as it should, whatever was made before; a void one refuses it
pub record Made {R W : Type 0} (meaning : R → Program → Rule) (watching : W → Watch) (on : Subject R W) (request : Request) (before : Inquiry) (table : List Edge) (output : List ℕ) (later : Inquiry) (table_later : List Edge) (output_later : List ℕ) (reply : Result Reply Refusal) : Type 0 where
  pub carried : (places edge_places : ℕ) (rs : List Request) (first : Inquiry) (lent : List Edge) → Carried (opened_on meaning watching on places edge_places) rs first lent before table
      → (reply ≡ asked (opened_on meaning watching on places edge_places) rs request)
      × (output_later ≡ output_by (opened_on meaning watching on places edge_places) (after (opened_on meaning watching on places edge_places) rs) request output)
      × Carried (opened_on meaning watching on places edge_places) (rs ++ request ∷ []) first lent later table_later
  pub void : (e : Refusal) (first : Inquiry) (lent : List Edge) (blank : List ℕ) → Void e first lent blank before table output → (reply ≡ Err e) × Void e first lent blank later table_later output_later
