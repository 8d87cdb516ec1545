-- What write writes: the file of a recipe's program with the edges of a list that count.
use Rattle.std.specs.Prelude.{◌≡◌, ℕ, ◌≤◌, cond, List, ◌++◌, length, take, drop, Ok, Err, Result, nat_le}
use Rattle.model.specs.declared.Edge.{Edge}
use Rattle.model.specs.Program.{Program, counted}
use Rattle.recipe.specs.declared.grounds.Refusal.{Refusal}
use Rattle.recipe.specs.declared.grounds.Refusal.TheVariants.{ShortOutput}
use Rattle.recipe.specs.Bytes.{program_of, edges_of}
use Rattle.recipe.specs.Format.{bytes_of, Legal}

-- the edges of a list that count; what lies past its first 4,096 places is not looked at
abbrev pub listed_edges : Program → List Edge → List Edge
listed_edges p es = counted p (take 4096 es)

-- the file of a program with these edges
abbrev pub file_with : Program → List Edge → List ℕ
file_with p es = bytes_of p (listed_edges p es)

-- the answer: the file's length, or that the output is too short for it
abbrev pub write_answer : List ℕ → List ℕ → Result ℕ Refusal
write_answer file out = cond (nat_le (length file) (length out)) (Ok (length file)) (Err (ShortOutput (length file)))

-- the output then: the file, and past it what was there; or all that was there
abbrev pub write_output : List ℕ → List ℕ → List ℕ
write_output file out = cond (nat_le (length file) (length out)) (file ++ drop (length file) out) out

-- no more edges than are read, and each of them counts
abbrev pub AllCount : Program → List Edge → Type 0
AllCount p es = (length es ≤ 4096) × (counted p es ≡ es)

-- a legal file: what is written for this program and these edges, and says them
pub record FileOf (p : Program) (es : List Edge) (bs : List ℕ) : Type 0 where
  pub legal : Legal bs
  pub bytes : bs ≡ bytes_of p es
  pub program : program_of bs ≡ p
  pub edges : edges_of bs ≡ es
