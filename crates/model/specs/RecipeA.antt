-- Recipe A: main calls a method of few rights, which leaves mark 1, and then one that comes to mark 2 behind a check.
use Rattle.std.specs.Prelude.{true, false, List, [], ◌∷◌, replicate}
use Rattle.model.specs.declared.Edge.{Edge}
use Rattle.model.specs.declared.Kind.TheVariants.{Nop, Call, Check, Return}
use Rattle.model.specs.Access.{history, stack_inspection}
use Rattle.model.specs.Facts.{Setting}
use Rattle.model.specs.Program.{Program}
use Rattle.model.specs.Watches.{table_watch}

-- main is nodes 0 to 2, method 1 is node 3, and method 2 is nodes 4 to 6; mark 1 leads from row 0 to row 1, where mark 2 is undefined
abbrev pub program_a : Program
program_a = record {
  methods = record { rights = 3; nodes = 3 } ∷ record { rights = 1; nodes = 1 } ∷ record { rights = 3; nodes = 3 } ∷ [];
  nodes =
      record { kind = Call 1 0 0 false; mark = 0; entry = true }
      ∷ record { kind = Call 2 0 0 false; mark = 0; entry = false }
      ∷ record { kind = Return; mark = 0; entry = false }
      ∷ record { kind = Return; mark = 1; entry = true }
      ∷ record { kind = Check 2; mark = 0; entry = true }
      ∷ record { kind = Nop; mark = 2; entry = false }
      ∷ record { kind = Return; mark = 0; entry = false }
      ∷ [];
  rows = (0 ∷ 1 ∷ replicate 30 0) ∷ (1 ∷ 1 ∷ 255 ∷ replicate 29 1) ∷ [];
}

abbrev pub edges_a : List Edge
edges_a = record { from = 0; to = 1 } ∷ record { from = 1; to = 2 } ∷ record { from = 4; to = 5 } ∷ record { from = 5; to = 6 } ∷ []

-- recipe A under each of the two rules, with its own table for a watch
abbrev pub history_a : Setting
history_a = record { program = program_a; edges = edges_a; rule = history program_a; watch = table_watch program_a.rows }

abbrev pub stack_a : Setting
stack_a = record { program = program_a; edges = edges_a; rule = stack_inspection program_a; watch = table_watch program_a.rows }
