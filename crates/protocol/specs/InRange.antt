-- Question 4's meaning for the first register's writer and readers, no more and no less; for the rest, common/Rules.InRange has it.
use Rattle.std.specs.Prelude.{ℕ, ◌+◌, ◌*◌, ◌≤◌, ◌<◌, ◌≡◌, true, false}
use Rattle.std.specs.Int.Count.{ones}
use Rattle.words.specs.declared.stamp.Stamp.{Stamp}
use Rattle.common.specs.declared.Writer.{Writer}
use Rattle.common.specs.declared.Reader.{Reader}
use Rattle.protocol.specs.State.{excluded_by}

-- "tickets 0 to 63"
pub record StampInRange (s : Stamp) : Type 0 where
  pub cur_low : s.cur < 64
  pub prev_low : s.prev < 64

pub record WriterInRange (n : ℕ) (w : Writer) : Type 0 where
  pub stamp_passes : StampInRange w.stamp
  -- "words moved at most 2n−1 in an open write"
  pub moved_low : w.active ≡ true → w.moved < 2 * n
  -- "until an open write takes its new ticket, its barred tickets, own cur and prev counted in, at most 2 plus 3 for each cell read"
  pub few : w.active ≡ true → w.moved ≤ n → ones (excluded_by w) ≤ 2 + 3 * w.moved
  pub ticket_low : w.active ≡ true → n < w.moved → w.ticket < 64

pub record ReaderInRange (n : ℕ) (r : Reader) : Type 0 where
  pub stamp_passes : StampInRange r.stamp
  -- "2n+2 in a read's first attempt, n+3 to 3n+5 from its second on"
  pub in_first : r.active ≡ true → r.second ≡ false → r.moved ≤ 2 * n + 2
  pub in_second : r.active ≡ true → r.second ≡ true → (n + 3 ≤ r.moved) × (r.moved ≤ 3 * n + 5)
