use Rattle.std.proofs.Common.{◌≡◌, ℕ, ◌<◌, ◌≤◌, true, length, get_or}
use Rattle.model.specs.Program.{is_entry_of}
use Rattle.recipe.specs.Recipes.{program}
use Rattle.inspect.proofs.ruled.first_entries.Given as goal

-- the entries so far are of the first methods, one each, and not more than the nodes that were looked at
abbrev pub invariant-loop-n : goal.invariant-loop-n
invariant-loop-n l = record {
  few : length l.entries.items ≤ l.n;
  each : (k : ℕ) → k < length l.entries.items → is_entry_of (program l.recipe) k (get_or l.entries.items k 0) ≡ true;
}
