-- What the functions inside this crate ask of one another, and their outcomes as the definitions have them.
use Rattle.std.specs.Prelude.{ℕ, ◌+◌, ◌-◌, ◌*◌, ◌≤◌, ◌<◌, ◌≡◌, true, false, List, ltb}
use Rattle.std.specs.Int.Count.{ones}
use Rattle.words.specs.Choice.{pick}
use Rattle.common.specs.declared.Writer.{Writer}
use Rattle.common.specs.declared.Reader.{Reader}
use Rattle.common.specs.Rules.{WriteStep, ReadStep, Rules}
use Rattle.protocol.specs.Write.{writer_stores, writer_ends}
use Rattle.protocol.specs.State.{excluded_by}
use Rattle.counted.specs.State.{last_stamp}

-- a table for n readers of a register with the rules R
pub record TableOk (R : Rules) (n cells : ℕ) : Type 0 where
  pub n_low : 1 ≤ n
  pub n_high : n ≤ 16
  pub cells_are : R.cells n ≤ cells

-- reader p with an open read in range
pub record ReadOk (n p : ℕ) (r : Reader) : Type 0 where
  pub p_low : 1 ≤ p
  pub p_high : p ≤ n
  pub moved_low : r.moved ≤ 3 * n + 5
  pub in_first : r.second ≡ false → r.moved ≤ 2 * n + 2
  pub in_second : r.second ≡ true → (n + 3 ≤ r.moved) × (r.moved ≤ 3 * n + 5)

-- an open write in range
pub record WriteOk (n : ℕ) (w : Writer) : Type 0 where
  pub moved_low : w.moved < 2 * n
  pub few : w.moved ≤ n → ones (excluded_by w) ≤ 2 + 3 * w.moved

-- the same of the counted register
pub record CountedReadOk (n p : ℕ) (r : Reader) : Type 0 where
  pub p_low : 1 ≤ p
  pub p_high : p ≤ n
  pub n_high : n ≤ 16
  pub moved_low : r.moved < 2 * n - 1

pub record CountedWriteOk (n : ℕ) (w : Writer) : Type 0 where
  pub n_high : n ≤ 16
  pub moved_low : w.moved < n
  pub count_low : w.count < last_stamp

-- the writer behind a store
abbrev pub stored_writer : ℕ → Writer → Writer
stored_writer n w = pick (ltb (w.moved + 1) (2 * n)) (writer_stores n w) (writer_ends n w)

abbrev pub write_stepped : Writer → List ℕ → WriteStep
write_stepped w t = record { writer = w; table = t }

abbrev pub read_stepped : Reader → List ℕ → ReadStep
read_stepped r t = record { reader = r; table = t }
