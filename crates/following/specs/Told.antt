-- What is said of a walk: bytes of text.
use Rattle.std.specs.Prelude.{ℕ, Bool, false, ◌+◌, if◌then◌else◌, List, [], ◌∷◌, ◌++◌, length, replicate, Some, None, Ok, Err, Option, Result, is_ok, codes, bytes_eq}
use Rattle.std.specs.Fmt.{decimal}
use Rattle.std.specs.Option.{unwrap_or}
use Rattle.model.specs.Access.{Rule, history, stack_inspection}
use Rattle.model.specs.Facts.{Setting}
use Rattle.model.specs.Program.{Program}
use Rattle.model.specs.Watches.{table_watch}
use Rattle.recipe.specs.Bytes.{program_of, edges_of}
use Rattle.recipe.specs.Offence.{first_offence, take_tests, check_tests, number_of}
use Rattle.recipe.specs.Recipes.{method_of}
use Rattle.recipe.specs.declared.grounds.Refusal.{Refusal}
use Rattle.recipe.specs.declared.grounds.Refusal.TheVariants.{NotAStep}
use Rattle.showing.specs.Phrases.{held_text, refused_text}
use Rattle.walker.specs.declared.stands.Stand.{Stand}
use Rattle.walker.specs.Walking.{no_frame, Walked, advance_by, first_walked}
use Rattle.following.specs.Words.{numbers_in}

abbrev pub usage : List ℕ
usage = codes "walk history|stack NODE NODE .. < RECIPE"

-- a line for where a run stands that came to node n: its depth, the node and its method, the rights, and the watch's state
abbrev pub stand_text : Program → Stand → ℕ → List ℕ
stand_text p s n =
    codes "depth " ++ (decimal s.depth ++ (codes ", node " ++ (decimal n ++ (codes " of method " ++ (decimal (unwrap_or (method_of p n) 0) ++ (codes ": " ++ (held_text s.value
    ++ (codes "; watch in state " ++ (decimal s.state ++ ((if s.bad then codes ", bad" else []) ++ codes "\n"))))))))))

-- that node n, at a place of the list, is refused
abbrev pub refusal_text : Refusal → ℕ → ℕ → List ℕ
refusal_text e n place =
    codes "refused " ++ (decimal (number_of e) ++ (codes " " ++ (decimal place ++ (codes ": node " ++ (decimal n ++ (codes " at place " ++ (decimal place ++ codes " is no step from where the run stands")))))))

abbrev pub step_text : Program → Result Stand Refusal → ℕ → ℕ → List ℕ
step_text p (Ok s) n place = stand_text p s n
step_text p (Err e) n place = refusal_text e n place

-- how a walk ended that was accepted; nothing more is said of one that was refused
abbrev pub end_text : Result Stand Refusal → List ℕ
end_text (Ok s) = if s.bad then codes "accepted: a bad run" else codes "accepted: a run, and not a bad one"
end_text (Err e) = []

-- what is said of the rest of a list, from a place on: the step to its next node, as the walker has it, and then of the others, if it is one
unfoldable pub rest_text : Setting → List ℕ → ℕ → Walked → List ℕ
rest_text X [] place w = end_text w.at
rest_text X (m ∷ ms) place w =
    let v = advance_by X.program X.edges X.rule X.watch w.at w.stack m 0 in if is_ok w.at then step_text X.program v.at m place ++ rest_text X ms (place + 1) v else []

-- of a whole list, with as many places of stack as it has nodes
abbrev pub list_text : Setting → List ℕ → List ℕ
list_text X [] = refused_text (NotAStep 0) ++ codes ": an empty list is no run"
list_text X (m ∷ ms) =
    let w = first_walked X.program X.rule X.watch m (replicate (length (m ∷ ms)) no_frame) in step_text X.program w.at m 0 ++ rest_text X ms 1 w

-- a file's program with its own edges, under a rule, with the watch of its rows
abbrev pub setting_in : (Program → Rule) → List ℕ → Setting
setting_in rule bs = record { program = program_of bs; edges = edges_of bs; rule = rule (program_of bs); watch = table_watch (program_of bs).rows }

abbrev pub walk_text : (Program → Rule) → List ℕ → List ℕ → List ℕ
walk_text rule bs ns = list_text (setting_in rule bs) ns

-- under the rule of a name; another name gets the usage
abbrev pub named_text : List ℕ → List ℕ → List ℕ → List ℕ
named_text name bs ns =
    if bytes_eq name (codes "history") then walk_text history bs ns
    else if bytes_eq name (codes "stack") then walk_text stack_inspection bs ns
    else usage

-- unless the file has an offence
abbrev pub file_text : List ℕ → List ℕ → List ℕ → Option Refusal → List ℕ
file_text name bs ns None = named_text name bs ns
file_text name bs ns (Some e) = refused_text e ++ codes ": this is no recipe file"

-- or a word says no number
abbrev pub words_text : List ℕ → List ℕ → Result (List ℕ) ℕ → List ℕ
words_text name bs (Ok ns) = file_text name bs ns (first_offence (take_tests bs ++ check_tests bs))
words_text name bs (Err place) = codes "the word at place " ++ (decimal place ++ codes " of the list is no number of a node")

-- what is said of a file and the words of a command: a rule's name, and then numbers of nodes
abbrev pub text_of : List ℕ → List (List ℕ) → List ℕ
text_of bs [] = usage
text_of bs (name ∷ words) = words_text name bs (numbers_in words)

-- whether that hangs on the file: there is a rule's name, and each word behind it says a number
abbrev pub asks_file : List (List ℕ) → Bool
asks_file [] = false
asks_file (name ∷ words) = is_ok (numbers_in words)
