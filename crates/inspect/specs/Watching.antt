-- What the table watch of a recipe does, mark by mark and state by state: a line for each mark that a node has.
use Rattle.std.specs.Prelude.{ℕ, zero, suc, ◌+◌, List, [], ◌++◌, length, if◌then◌else◌, ◌==◌, codes}
use Rattle.std.specs.Fmt.{decimal}
use Rattle.model.specs.Program.{Program, node_at}
use Rattle.model.specs.Watches.{table_watch}
use Rattle.recipe.specs.Offence.{any_below}
use Rattle.inspect.specs.Phrases.{many_text, going_text}

-- where a mark leads from a state, with a comma before all but the first
unfoldable pub state_text : Program → ℕ → ℕ → List ℕ
state_text p mark state =
    let w = table_watch p.rows in
    (if state == 0 then codes " " else codes ", ") ++ going_text state (w.step state mark) (w.bad (w.step state mark))

-- from the first n states
unfoldable pub states_of : Program → ℕ → ℕ → List ℕ
states_of p mark zero = []
states_of p mark (suc n) = states_of p mark n ++ state_text p mark n

abbrev pub states_text : Program → ℕ → List ℕ
states_text p mark = states_of p mark (table_watch p.rows).states

-- a mark that some node has
unfoldable pub mark_text : Program → ℕ → List ℕ
mark_text p mark =
    if any_below (length p.nodes) (λ n. (node_at p n).mark == mark)
    then ((codes "  mark " ++ (decimal mark ++ codes ":")) ++ states_text p mark) ++ codes "\n"
    else []

-- the first n marks
unfoldable pub marks_of : Program → ℕ → List ℕ
marks_of p zero = []
marks_of p (suc n) = marks_of p n ++ mark_text p n

-- how many states there are, and the first one
abbrev pub head_of : ℕ → ℕ → List ℕ
head_of states start = codes "watch of " ++ (many_text states (codes "state") ++ (codes ", from state " ++ (decimal start ++ codes "\n")))

unfoldable pub head_text : Program → List ℕ
head_text p = let w = table_watch p.rows in head_of w.states w.start

abbrev pub watch_text : Program → List ℕ
watch_text p = head_text p ++ marks_of p 32
