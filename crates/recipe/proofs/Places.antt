-- What a layout's ghost facts say of its bytes.
use Rattle.std.proofs.Common.{◌≡◌, arith}
use Rattle.recipe.specs.declared.Layout.{Layout}
use Rattle.recipe.proofs.WriteBack.{Taken}
use Rattle.recipe.specs.Bytes.{nodes_at, edges_at, rows_at}

pub nodes_place : (l : Layout) → l.contents.nodes.place ≡ nodes_at l.file.now
nodes_place l = omega arith

pub edges_place : (l : Layout) → l.contents.edges.place ≡ edges_at l.file.now
edges_place l = omega arith

pub rows_place : (l : Layout) → l.contents.rows.place ≡ rows_at l.file.now
rows_place l = omega arith

-- the file of a layout passes take's tests
pub laid : (l : Layout) → Taken l.file.now
laid l = record {
  long = omega arith;
  methods_low = omega arith;
  methods_high = omega arith;
  nodes_low = omega arith;
  nodes_high = omega arith;
  edges_high = omega arith;
  rows_high = omega arith;
  at_0 = omega arith;
  at_1 = omega arith;
  at_2 = omega arith;
  at_3 = omega arith;
  whole = omega arith;
}
