-- What is printed of a judgement, and of a file: bytes of text.
use Rattle.std.specs.Prelude.{◌≡◌, ℕ, cond, ◌⊎◌, List, [], ◌++◌, Ok, Err, Result, codes, ◌==◌}
use Rattle.std.specs.Fmt.{decimal}
use Rattle.std.specs.List.{flat_map}
use Rattle.model.specs.Lawful.{Lawful}
use Rattle.model.specs.Models.{HistoryTrace, StackTrace}
use Rattle.model.specs.Program.{Program}
use Rattle.model.specs.Words.{verdict_name}
use Rattle.model.specs.declared.Edge.{Edge}
use Rattle.recipe.specs.Format.{bytes_of, Legal}
use Rattle.recipe.specs.Offence.{number_of, detail_of}
use Rattle.recipe.specs.declared.grounds.Refusal.{Refusal}
use Rattle.recipe.specs.Words.{sentence}
use Rattle.judging.specs.declared.errors.JudgeError.{JudgeError}
use Rattle.judging.specs.declared.errors.JudgeError.TheVariants.{Refused, OutOfMemory}
use Rattle.judging.specs.declared.Judgement.{Judgement}
use Rattle.judging.specs.declared.Verdicts.{Verdicts}
use Rattle.judging.specs.Judged.{Found, ByModel, shown_both, judgement_of}

-- each node of a list, with a blank before it
abbrev pub nodes_text : List ℕ → List ℕ
nodes_text ns = flat_map (λ n. codes " " ++ decimal n) ns

-- the trace, or how long it is if it is refused for that (15); nothing else is said of it
abbrev pub trace_text : Result (List ℕ) Refusal → List ℕ
trace_text (Ok ns) = codes " trace" ++ nodes_text ns
trace_text (Err e) = cond (number_of e == 15) (codes " long " ++ decimal (detail_of e)) []

-- what one rule comes to, as a line: the rule, the verdict, how many facts are held, and the trace
abbrev pub line_text : List ℕ → Found → List ℕ
line_text rule f = rule ++ (codes " " ++ (verdict_name f.report.verdict ++ (codes " facts " ++ (decimal f.report.held ++ trace_text f.trace))))

-- a line for each rule
abbrev pub lines_text : Found → Found → List ℕ
lines_text history stack = line_text (codes "history") history ++ (codes "\n" ++ line_text (codes "stack") stack)

-- what is printed for a file: a line for each rule, or the number of the refusal
abbrev pub judgement_text : Result (Found × Found) Refusal → List ℕ
judgement_text (Ok found) = lines_text found.0 found.1
judgement_text (Err e) = decimal (number_of e)

abbrev pub text_of : List ℕ → List ℕ
text_of bs = judgement_text (judgement_of bs)

-- what is printed of verdicts
abbrev pub judged_found : Result Judgement Refusal → Result (Found × Found) Refusal
judged_found (Ok j) = Ok (shown_both j)
judged_found (Err e) = Err e

abbrev pub verdicts_text : Verdicts → List ℕ
verdicts_text v = judgement_text (judged_found v.judged)

-- for one of several files, its name stands before them on a line
abbrev pub named_text : List ℕ → List ℕ → List ℕ
named_text name text = name ++ (codes "\n" ++ text)

-- a text shows what is right of a legal file: it is that of what is found under both rules, and each is right of every trace that the transition system of its rule has of the program and edges that the file was written for
pub record ShowsLegal (bs text : List ℕ) : Type 0 where
  pub program : Program
  pub edges : List Edge
  pub lawful : Lawful program edges
  pub file : bs ≡ bytes_of program edges
  pub history : Found
  pub stack : Found
  pub lines : text ≡ lines_text history stack
  pub by_history : ByModel (HistoryTrace program edges) program 1024 history
  pub by_stack : ByModel (StackTrace program edges) program 1024 stack

-- a text shows that a file is refused: it is the refusal's number, and the file is not legal
pub record ShowsRefused (bs text : List ℕ) : Type 0 where
  pub refusal : Refusal
  pub number : text ≡ decimal (number_of refusal)
  pub illegal : Legal bs → ⊥

-- what is printed for a file tells one or the other
abbrev pub TextTells : List ℕ → List ℕ → Type 0
TextTells bs text = ShowsLegal bs text ⊎ ShowsRefused bs text

-- why there is no judgement, in words
abbrev pub error_text : JudgeError → List ℕ
error_text (Refused e) = codes "no recipe file: " ++ sentence e
error_text OutOfMemory = codes "out of memory"
