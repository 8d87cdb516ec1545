-- What the lines of inspect are made of, as bytes.
use Rattle.std.specs.Prelude.{ℕ, Bool, List, [], ◌∷◌, ◌++◌, if◌then◌else◌, ◌==◌, codes}
use Rattle.std.specs.Fmt.{decimal}
use Rattle.std.specs.List.{flat_map}
use Rattle.model.specs.declared.Edge.{Edge}
use Rattle.model.specs.declared.Kind.{Kind}
use Rattle.model.specs.declared.Kind.TheVariants.{Nop, Call, Check, Return}
use Rattle.model.specs.declared.Method.{Method}
use Rattle.model.specs.declared.Node.{Node}
use Rattle.showing.specs.Phrases.{rights_text, held_text}
use Rattle.inspect.specs.declared.written.Written.{Written}
use Rattle.inspect.specs.declared.written.Written.TheVariants.{Same, Other}

-- so many of a kind: "1 row" or "3 rows"
abbrev pub many_text : ℕ → List ℕ → List ℕ
many_text number what = decimal number ++ (codes " " ++ (what ++ (if number == 1 then codes "" else codes "s")))

-- consecutive numbers of one kind: "node 3" or "nodes 0 to 2"
abbrev pub run_text : List ℕ → ℕ → ℕ → List ℕ
run_text what first last = if first == last
    then what ++ (codes " " ++ decimal first)
    else what ++ (codes "s " ++ (decimal first ++ (codes " to " ++ decimal last)))

-- words that stand only where something is so
abbrev pub word_if : Bool → List ℕ → List ℕ
word_if b word = if b then word else codes ""

-- what a node does
abbrev pub action_text : Kind → List ℕ
action_text Nop = codes "nop"
action_text (Call callee grant accept privileged) = codes "call method " ++ (decimal callee ++ (word_if privileged (codes " (privileged)") ++ (codes ", grant " ++ (rights_text grant ++ (codes ", accept " ++ rights_text accept)))))
action_text (Check required) = codes "check " ++ rights_text required
action_text Return = codes "return"

-- where edges lead; nothing, if there are none
abbrev pub targets_text : List Edge → List ℕ
targets_text [] = []
targets_text (e ∷ es) = codes "; then " ++ (decimal e.to ++ flat_map (λ d. codes ", " ++ decimal d.to) es)

-- a node with its number and the edges that leave it
abbrev pub step_text : ℕ → Node → List Edge → List ℕ
step_text number node edges =
    codes "node " ++ (decimal number ++ (word_if node.entry (codes ", entry") ++ (codes ": " ++ (action_text node.kind ++ (codes "; mark " ++ (decimal node.mark ++ targets_text edges))))))

-- the line above a method's nodes, of which it names the first and the last
abbrev pub heading_text : ℕ → Method → List ℕ → List ℕ
heading_text number method nodes = codes "method " ++ (decimal number ++ (word_if (number == 0) (codes " (main)") ++ (codes ": " ++ (held_text method.rights ++ (codes "; " ++ nodes)))))

-- where a run of marks leads: 255 is undefined
abbrev pub lead_text : List ℕ → ℕ → List ℕ
lead_text marks cell = if cell == 255 then marks ++ codes " undefined" else marks ++ (codes " to row " ++ decimal cell)

-- what a rule does at a check
abbrev pub verb_text : Bool → List ℕ
verb_text passed = if passed then codes "passes" else codes "stops"

-- both rules at a call, and at a check
abbrev pub at_call_text : ℕ → ℕ → ℕ → List ℕ
at_call_text call history stack =
    codes "call " ++ (decimal call ++ (codes " from every right: history enters with rights " ++ (rights_text history ++ (codes ", stack inspection with rights " ++ rights_text stack))))

abbrev pub at_check_text : ℕ → Bool → Bool → List ℕ
at_check_text check history stack =
    codes "check " ++ (decimal check ++ (codes " with its method's rights: history " ++ (verb_text history ++ (codes ", stack inspection " ++ verb_text stack))))

-- where the watch goes from a state
abbrev pub going_text : ℕ → ℕ → Bool → List ℕ
going_text state next bad = decimal state ++ (codes " to " ++ (decimal next ++ word_if bad (codes " (bad)")))

-- what was written again
abbrev pub written_text : Written → List ℕ
written_text (Same bytes) = decimal bytes ++ codes " bytes, the same file"
written_text (Other bytes) = decimal bytes ++ codes " bytes, another file"
