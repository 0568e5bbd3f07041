-- The counted register's table, "of n² cells", by the processors from and to whom they are.
use Rattle.std.specs.Prelude.{ℕ, ◌+◌, ◌-◌, ◌*◌, ◌≤◌, ◌≢◌, List, eqb, ltb, get_or, set}
use Rattle.words.specs.Choice.{pick}
use Rattle.counted.specs.declared.Cell.{Cell}
use Rattle.counted.specs.Cell.{pack_cell, unpack_cell}

-- "Row i starts at n+(i−1)(n−1) for a reader"; the writer's row at 0
unfoldable pub row_start : ℕ → ℕ → ℕ
row_start n i = pick (eqb i 0) 0 (n + (i - 1) * (n - 1))

-- "rows, and all stores, go by rising reader", "no cell to the writer": j stands behind the readers below it, but for i itself
unfoldable pub in_row : ℕ → ℕ → ℕ
in_row i j = pick (eqb i 0) (j - 1) (pick (ltb j i) (j - 1) (j - 2))

abbrev pub index : ℕ → ℕ → ℕ → ℕ
index n i j = row_start n i + in_row i j

-- processor i has a cell to reader j
pub record Link (n i j : ℕ) : Type 0 where
  pub from : i ≤ n
  pub dest_low : 1 ≤ j
  pub dest : j ≤ n
  pub apart : j ≢ i

-- the word from i to j, and its cell; the table with another cell there
abbrev pub word_at : ℕ → List ℕ → ℕ → ℕ → ℕ
word_at n t i j = get_or t (index n i j) 0

abbrev pub view : ℕ → List ℕ → ℕ → ℕ → Cell
view n t i j = unpack_cell (word_at n t i j)

abbrev pub store : ℕ → List ℕ → ℕ → ℕ → Cell → List ℕ
store n t i j c = set t (index n i j) (pack_cell c)
