-- The smallest program is lawful, so that its file stands.
use Rattle.std.proofs.Common.{ℕ, zero, suc, ◌<◌, [], refl, arith}
use Rattle.model.specs.Lawful.{Lawful, MethodRules, NodeRules}
use Rattle.model.specs.Program.{offset, node_at, rights_of}
use Rattle.recipe.specs.Recipes.{smallest}

smallest_method : (k : ℕ) → k < 1 → MethodRules smallest k
unfolding offset
smallest_method zero h = record { rights = omega arith; some = omega arith; entry = (0, omega arith, omega arith, refl) }
smallest_method (suc k) h = absurd (omega arith)

smallest_node : (n : ℕ) → n < 1 → NodeRules 1 (rights_of smallest n) (node_at smallest n)
smallest_node zero h = (omega arith, tt)
smallest_node (suc n) h = absurd (omega arith)

pub smallest_lawful : Lawful smallest []
unfolding offset
smallest_lawful = record {
  some_method = omega arith;
  few_methods = omega arith;
  some_node = omega arith;
  few_nodes = omega arith;
  few_edges = omega arith;
  few_rows = omega arith;
  method = smallest_method;
  summing = refl;
  node = smallest_node;
  edge = λ i h. absurd (omega arith);
  rising = λ i h. absurd (omega arith);
  row = λ i h. absurd (omega arith);
}
