-- Question 4's meaning for the counted register's writer and readers, no more and no less; for the rest, common/Rules.InRange has it.
use Rattle.std.specs.Prelude.{ℕ, ◌-◌, ◌*◌, ◌<◌, ◌≡◌, true}
use Rattle.common.specs.declared.Writer.{Writer}
use Rattle.common.specs.declared.Reader.{Reader}
use Rattle.counted.specs.State.{last_stamp}

pub record WriterInRange (n : ℕ) (w : Writer) : Type 0 where
  -- "at most n−1 words moved in an open write"
  pub moved_low : w.active ≡ true → w.moved < n
  -- "and the stamp before an open write below 4,294,967,295"
  pub count_low : w.active ≡ true → w.count < last_stamp

-- "2n−2 in an open read"
abbrev pub ReaderInRange : ℕ → Reader → Type 0
ReaderInRange n r = r.active ≡ true → r.moved < 2 * n - 1
