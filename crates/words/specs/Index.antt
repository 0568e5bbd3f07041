-- The cells' places in the table, of n readers: the index of the cell from processor i to processor j.
use Rattle.std.specs.Prelude.{ℕ, ◌+◌, ◌-◌, ◌*◌, ◌≤◌, ◌≢◌, ltb}
use Rattle.words.specs.Choice.{pick}

-- "The row of processor i starts at place n×i and has n cells."
abbrev pub row_start : ℕ → ℕ → ℕ
row_start n i = n * i

-- "The writer's row: to readers 1..n. Reader i's row: first to the writer, then to the other readers in rising order."
-- So j stands behind the processors below it, but for i itself.
unfoldable pub in_row : ℕ → ℕ → ℕ
in_row i j = pick (ltb j i) j (j - 1)

unfoldable pub index : ℕ → ℕ → ℕ → ℕ
index n i j = row_start n i + in_row i j

-- i and j are two of the processors 0..n
pub record Pair (n i j : ℕ) : Type 0 where
  pub from : i ≤ n
  pub dest : j ≤ n
  pub apart : j ≢ i

-- "the other readers, in rising order": the k-th reader, from 0, other than p
unfoldable pub other : ℕ → ℕ → ℕ
other p k = pick (ltb (k + 1) p) (k + 1) (k + 2)
