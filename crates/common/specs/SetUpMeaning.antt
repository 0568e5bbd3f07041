-- What the number of set-up's answer means: "are there 1 to 16 readers (1)? At least n²+n cells (2)? Is the log 3 to 4,096 rows (3)?" Of
-- the counted register "questions 2 and 4 take n² cells".
use Rattle.std.specs.Prelude.{ℕ, ◌≤◌, ◌<◌}

-- "1 to 16 readers"
pub record FitReaders (n : ℕ) : Type 0 where
  pub low : 1 ≤ n
  pub high : n ≤ 16

-- "3 to 4,096 rows"
pub record FitRows (rows : ℕ) : Type 0 where
  pub low : 3 ≤ rows
  pub high : rows ≤ 4096

-- all three, of n readers that need so many cells, a table and a log
pub record FitSetUp (n need cells rows : ℕ) : Type 0 where
  pub readers : FitReaders n
  pub enough : need ≤ cells
  pub log : FitRows rows

-- "Questions in their order": the first that is answered no gives its number
pub data SetUpSays (n need cells rows : ℕ) : ℕ → Type 0 where
  is_set_up : FitSetUp n need cells rows → SetUpSays n need cells rows 0
  says_1 : ¬ FitReaders n → SetUpSays n need cells rows 1
  says_2 : FitReaders n → cells < need → SetUpSays n need cells rows 2
  says_3 : FitReaders n → need ≤ cells → ¬ FitRows rows → SetUpSays n need cells rows 3
