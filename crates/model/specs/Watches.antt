-- Watches as mathematics: what a watch is, and the two watches, the table and the wall.
use Rattle.std.specs.Prelude.{◌≡◌, ℕ, ◌+◌, ◌<◌, Bool, true, cond, ◌&&◌, List, length, ◌==◌, bit_or, nat_lt, slice_index, slice_index_or, fold, All}
use Rattle.std.specs.List.{list_any}
use Rattle.model.specs.Program.{no_row}

-- how many states there are, the first one, the state after a mark, and which states are bad
pub record Watch : Type 0 where
  pub states : ℕ
  pub start : ℕ
  pub step : ℕ → ℕ → ℕ
  pub bad : ℕ → Bool

-- a step is asked as it should be of a state below the count, on one of the 32 marks
abbrev pub asks_step : ℕ → ℕ → ℕ → Bool
asks_step states q mark = nat_lt q states && nat_lt mark 32

-- a cell of a table with so many rows: 255, undefined, leads to the state past the last row
abbrev pub after_cell : ℕ → ℕ → ℕ
after_cell rows cell = cond (cell == 255) rows cell

-- the table watch has a state for each row and one more, the only bad one, which steps to itself
abbrev pub table_watch : List (List ℕ) → Watch
table_watch rows = record {
  states = length rows + 1;
  start = 0;
  step = λ q mark. cond (asks_step (length rows + 1) q mark) (cond (nat_lt q (length rows)) (after_cell (length rows) (slice_index (slice_index_or rows q no_row) mark)) (length rows)) 0;
  bad = λ q. (q == length rows);
}

-- the wall watch of two marks has four states: bit 0 tells that the first mark was met, bit 1 that the second was; only 3 is bad
abbrev pub wall_step : ℕ → ℕ → ℕ → ℕ → ℕ
wall_step one two q mark = bit_or q (cond (mark == one) 1 0 + cond (mark == two) 2 0)

abbrev pub wall_watch : ℕ → ℕ → Watch
wall_watch one two = record {
  states = 4;
  start = 0;
  step = λ q mark. cond (asks_step 4 q mark) (wall_step one two q mark) 0;
  bad = λ q. (q == 3);
}

-- a watch does not forget: on each of the 32 marks a bad state leads to a bad one
abbrev pub StaysBad : Watch → Type 0
StaysBad W = (q mark : ℕ) → q < W.states → mark < 32 → W.bad q ≡ true → W.bad (W.step q mark) ≡ true

-- the state after some marks, in their order
abbrev pub after_marks : Watch → List ℕ → ℕ
after_marks W marks = fold W.step W.start marks

-- neither watch forgets; in a table an undefined cell leads to the bad state; and the wall is bad exactly if both its marks were met
pub record WatchLaws : Type 0 where
  pub table_stays : (rows : List (List ℕ)) → StaysBad (table_watch rows)
  pub wall_stays : (one two : ℕ) → StaysBad (wall_watch one two)
  pub wall_meets : (one two : ℕ) (marks : List ℕ) → All (λ m. m < 32) marks → (wall_watch one two).bad (after_marks (wall_watch one two) marks) ≡ (list_any (λ m. m == one) marks && list_any (λ m. m == two) marks)
  pub undefined : (rows : List (List ℕ)) (q mark : ℕ) → q < length rows → mark < 32 → slice_index (slice_index_or rows q no_row) mark ≡ 255 → (table_watch rows).bad ((table_watch rows).step q mark) ≡ true
