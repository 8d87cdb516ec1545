use Rattle.std.proofs.Common.{◌≡◌, length, drop, map}
use Rattle.std.specs.String.{string_bytes}
use Rattle.following.specs.Words.{numbers_from, numbers_in}
use Rattle.following.proofs.numbers.numbers.Given as goal

abbrev pub invariant-loop-i : goal.invariant-loop-i
invariant-loop-i l = record {
  so_far : numbers_from l.numbers.items (map string_bytes (drop l.i l.words)) ≡ numbers_in (map string_bytes l.words);
  each : length l.numbers.items ≡ l.i;
}
