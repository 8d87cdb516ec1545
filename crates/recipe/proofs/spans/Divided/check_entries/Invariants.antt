use Rattle.std.proofs.Common.{◌≡◌, ℕ, ◌<◌, true}
use Rattle.model.specs.Program.{offset}
use Rattle.recipe.specs.Bytes.{program_of}
use Rattle.recipe.specs.Offence.{entry_test}
use Rattle.recipe.proofs.spans.Divided.check_entries.Given as goal

abbrev pub invariant-loop-k : goal.invariant-loop-k
invariant-loop-k l = (l.first ≡ offset (program_of l.self.layout.now.file.now).methods l.k) × ((j : ℕ) → j < l.k → entry_test l.self.layout.now.file.now j ≡ true)
