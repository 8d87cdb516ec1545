-- The worked cases of the formulas and of recipe A, as one statement.
use Rattle.std.specs.Prelude.{◌≡◌, ℕ, ◌<◌, true, false, List, [], ◌∷◌, length}
use Rattle.model.specs.Access.{history_enter, history_back, stack_enter}
use Rattle.model.specs.declared.Fact.{Fact}
use Rattle.model.specs.declared.Point.{Point}
use Rattle.model.specs.Facts.{Setting, Yields, FactIsBad}
use Rattle.model.specs.RecipeA.{history_a, stack_a}
use Rattle.model.specs.Searches.{fact_in, Different, trace_at}
use Rattle.model.specs.Tables.{opened, dug, first_bad}
use Rattle.model.specs.Watches.{wall_watch}

-- exactly n facts are yielded: so many are, all different, and each fact that is yielded is one of them
abbrev pub YieldsExactly : Setting → ℕ → Type 0
YieldsExactly X n = (fs : List (Point × Point)) × (length fs ≡ n) × Different X fs × ((a x : Point) → Yields X a x → (i : ℕ) × (i < length fs) × (fact_in fs i ≡ (a, x)))

-- a row by its ten numbers: where the call began and where it can be, each a node, a value and a state; the rule and its two sources; the length of the stretch
abbrev pub numbered : ℕ → ℕ → ℕ → ℕ → ℕ → ℕ → ℕ → ℕ → ℕ → ℕ → Fact
numbered entry brought seen node value state rule source returned span = record { entry = entry; brought = brought; seen = seen; node = node; value = value; state = state; rule = rule; source = source; returned = returned; span = span }

-- the tables of recipe A, under history and under stack inspection
abbrev pub history_rows : List Fact
history_rows =
    numbered 0 3 0 0 3 0 1 0 0 1
    ∷ numbered 3 1 1 3 1 1 3 1 0 1
    ∷ numbered 0 3 0 1 1 1 4 1 2 3
    ∷ numbered 4 1 1 4 1 1 3 3 0 1
    ∷ []

abbrev pub stack_rows : List Fact
stack_rows =
    numbered 0 3 0 0 3 0 1 0 0 1
    ∷ numbered 3 1 1 3 1 1 3 1 0 1
    ∷ numbered 0 3 0 1 3 1 4 1 2 3
    ∷ numbered 4 3 1 4 3 1 3 3 0 1
    ∷ numbered 4 3 1 5 3 2 2 4 0 2
    ∷ numbered 4 3 1 6 3 2 2 5 0 3
    ∷ numbered 0 3 0 2 3 2 4 3 6 7
    ∷ []

-- history: entering from {0} with grant {1} and callee's rights {1} gives {1}; coming back from {0, 1} with u = {0} and accept {1} gives {0, 1}; from {0} with u = {0, 1} and accept {} gives {0}
-- stack inspection: C = {0}, caller's rights {0, 1}, callee's {1}: privileged {1}, else {}
-- the wall of marks 1 and 5: mark 5 leads to state 2, which is not bad, and then mark 1 to state 3, which is
pub record Worked : Type 0 where
  pub history_enters : history_enter 1 2 2 ≡ 2
  pub history_accepts : history_back 3 1 2 ≡ 3
  pub history_comes_back : history_back 1 3 0 ≡ 1
  pub stack_privileged : stack_enter true 1 3 2 ≡ 2
  pub stack_plain : stack_enter false 1 3 2 ≡ 0
  pub wall_second : (wall_watch 1 5).step (wall_watch 1 5).start 5 ≡ 2
  pub wall_not_yet : (wall_watch 1 5).bad 2 ≡ false
  pub wall_both : (wall_watch 1 5).step 2 1 ≡ 3
  pub wall_bad : (wall_watch 1 5).bad 3 ≡ true
  -- searches of recipe A come to these tables
  pub history_table : (dug history_a 4 4 (opened history_a 4)).rows ≡ history_rows
  pub stack_table : (dug stack_a 7 7 (opened stack_a 7)).rows ≡ stack_rows
  -- under history recipe A yields 4 facts, and none of them is bad
  pub history_facts : YieldsExactly history_a 4
  pub history_good : FactIsBad history_a → ⊥
  -- under stack inspection it yields 7, and the trace of the first bad one, in table order, is 0 3 1 4 5
  pub stack_facts : YieldsExactly stack_a 7
  pub stack_trace : trace_at (dug stack_a 7 7 (opened stack_a 7)).rows (first_bad stack_a.watch (dug stack_a 7 7 (opened stack_a 7)).rows) ≡ 0 ∷ 3 ∷ 1 ∷ 4 ∷ 5 ∷ []
