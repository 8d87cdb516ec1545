-- Runs agree with the two transition systems: under the history rule the traces of a lawful program's runs are those of history-based access control, and under stack inspection those of stack inspection. They may follow its own edges, or any list of edges that obey the rules.
use Rattle.std.specs.Prelude.{ℕ, List, reverse}
use Rattle.model.specs.declared.Edge.{Edge}
use Rattle.model.specs.declared.Frame.{Frame}
use Rattle.model.specs.Access.{Rule, history, stack_inspection}
use Rattle.model.specs.Lawful.{Lawful, EdgesObey}
use Rattle.model.specs.Program.{Program}
use Rattle.model.specs.Models.{HistoryTrace, StackTrace}
use Rattle.model.specs.Runs.{Run}
use Rattle.model.specs.Watches.{Watch}

-- a list of nodes, in order, is the trace of a run
abbrev pub RunTrace : Program → List Edge → Rule → Watch → List ℕ → Type 0
RunTrace p es R W t = (fs : List Frame) × (q : ℕ) × Run p es R W (reverse t) fs q

abbrev pub HistoryAgrees : Type 0
HistoryAgrees =
    (p : Program) (own es : List Edge) (W : Watch) (t : List ℕ) → Lawful p own → EdgesObey p es → (HistoryTrace p es t → RunTrace p es (history p) W t) × (RunTrace p es (history p) W t → HistoryTrace p es t)

abbrev pub StackAgrees : Type 0
StackAgrees =
    (p : Program) (own es : List Edge) (W : Watch) (t : List ℕ) → Lawful p own → EdgesObey p es → (StackTrace p es t → RunTrace p es (stack_inspection p) W t) × (RunTrace p es (stack_inspection p) W t → StackTrace p es t)
