-- What a recipe stands for: its program and its own edges.
use Rattle.std.specs.Prelude.{◌≡◌, ℕ, true, cond, List, [], ◌∷◌, length, Some, None, Option, nat_lt, slice_index_or}
use Rattle.std.specs.List.{slice_get}
use Rattle.model.specs.declared.Edge.{Edge}
use Rattle.model.specs.declared.Kind.TheVariants.{Return}
use Rattle.model.specs.Lawful.{Lawful}
use Rattle.model.specs.Program.{Program, no_row, home}
use Rattle.recipe.specs.Bytes.{program_of, edges_of}
use Rattle.recipe.specs.declared.Draft.{Draft}
use Rattle.recipe.specs.declared.Recipe.{Recipe}
use Rattle.recipe.specs.Format.{bytes_of}

-- the bytes of the file that is held
abbrev pub file_of : Recipe → List ℕ
file_of r = r.layout.file.now

abbrev pub draft_of : Draft → List ℕ
draft_of d = d.layout.file.now

-- a recipe's program, and the edges of its file
abbrev pub program : Recipe → Program
program r = program_of (file_of r)

abbrev pub own_edges : Recipe → List Edge
own_edges r = edges_of (file_of r)

-- whatever lawful program and edges the bytes were written for, the recipe has these
abbrev pub ReadsAs : List ℕ → Recipe → Type 0
ReadsAs bs r = (p : Program) (es : List Edge) → Lawful p es → bs ≡ bytes_of p es → (program r ≡ p) × (own_edges r ≡ es)

-- the method of a node, if there is such a node
abbrev pub method_of : Program → ℕ → Option ℕ
method_of p n = cond (nat_lt n (length p.nodes)) (Some (home p.methods n)) None

-- the cell of a row at a mark, if there is such a row and such a mark
abbrev pub cell_of : Program → ℕ → ℕ → Option ℕ
cell_of p r m = slice_get (slice_index_or p.rows r no_row) m

-- the smallest program: main, with no rights, has one node, an entry that returns
abbrev pub smallest : Program
smallest = record { methods = record { rights = 0; nodes = 1 } ∷ []; nodes = record { kind = Return; mark = 0; entry = true } ∷ []; rows = [] }
