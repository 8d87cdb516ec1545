-- What calls of an inquiry, made one by one, are in its history: where a list of requests has led it, a call is answered as the next request, and leads it on.
use Rattle.std.specs.Prelude.{◌≡◌, ℕ, List, [], ◌∷◌, ◌++◌, length, take, Ok, Err, Result}
use Rattle.model.specs.declared.Edge.{Edge}
use Rattle.model.specs.declared.Fact.{Fact}
use Rattle.recipe.specs.declared.grounds.Refusal.{Refusal}
use Rattle.inquiry.specs.declared.Inquiry.{Inquiry}
use Rattle.inquiry.specs.declared.reports.Report.{Report}
use Rattle.inquiry.specs.declared.requests.Request.{Request}
use Rattle.inquiry.specs.declared.requests.Request.TheVariants.{Trace}
use Rattle.inquiry.specs.declared.requests.Reply.{Reply}
use Rattle.inquiry.specs.Calls.{counts_of, report_of}
use Rattle.inquiry.specs.Histories.{Opened, fit_of, with_table, Standing, output_by, after, asked}
use Rattle.inquiry.specs.Inquiries.{state_of}

-- an open inquiry, whose tables fitted, represents a standing with its edge table
pub record Represents (C : Opened) (s : Standing) (i : Inquiry) (table : List Edge) : Type 0 where
  pub fitted : fit_of C ≡ Ok tt
  pub fits : i.fits ≡ Ok tt
  pub places : i.places ≡ C.places
  pub counts : i.opening.counts ≡ counts_of (with_table C []) C.edge_places
  pub long : length table ≡ C.edge_places
  pub used : take i.opening.used table ≡ s.edges
  pub search : state_of i ≡ s.search

-- it is where a list of requests leads that it was asked since its opening
abbrev pub Reached : Opened → List Request → Inquiry → List Edge → Type 0
Reached C rs i table = Represents C (after C rs) i table

-- the reply that a call's answer makes
abbrev pub replied : {A : Type 0} → (A → Reply) → Result A Refusal → Result Reply Refusal
replied put (Ok a) = Ok (put a)
replied put (Err e) = Err e

-- a call is the next request, wherever others have led: it is answered so, and the inquiry is then where that leads
pub record IsNext {A : Type 0} (C : Opened) (r : Request) (put : A → Reply) (before : Inquiry) (table : List Edge) (later : Inquiry) (table_later : List Edge) (result : Result A Refusal) : Type 0 where
  pub answers : (rs : List Request) → Reached C rs before table → replied put result ≡ asked C rs r
  pub reaches : (rs : List Request) → Reached C rs before table → Reached C (rs ++ r ∷ []) later table_later

-- a call that asks for a trace is one too, with as much room as the output has places, and writes what the request does
pub record IsNextTrace (C : Opened) (put : ℕ → Reply) (i : Inquiry) (output output_later : List ℕ) (result : Result ℕ Refusal) : Type 0 where
  pub next : (table : List Edge) → IsNext C (Trace (length output)) put i table i table result
  pub writes : (rs : List Request) (table : List Edge) → Reached C rs i table → output_later ≡ output_by C (after C rs) (Trace (length output)) output

-- the end of an inquiry: its report is that of where it came to, and its table holds the facts that were found
pub record IsEnd (C : Opened) (i : Inquiry) (facts : List Fact) (result : Result Report Refusal) : Type 0 where
  pub reports : (rs : List Request) (table : List Edge) → Reached C rs i table → result ≡ Ok (report_of C.watch (after C rs).search)
  pub holds : (rs : List Request) (table : List Edge) → Reached C rs i table → take (length (after C rs).search.rows) facts ≡ (after C rs).search.rows
