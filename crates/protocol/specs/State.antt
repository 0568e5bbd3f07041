-- Question 4 of the first register's writer and readers: "is the state in range".
use Rattle.std.specs.Prelude.{ℕ, ◌+◌, ◌*◌, Bool, true, ◌&&◌, ltb, leb}
use Rattle.std.specs.Int.Count.{ones}
use Rattle.words.specs.Choice.{pick}
use Rattle.words.specs.Stamp.{stamp_ok}
use Rattle.common.specs.declared.Writer.{Writer}
use Rattle.common.specs.declared.Reader.{Reader}
use Rattle.protocol.specs.Tickets.{with_ticket}

-- the tickets that a write excludes, "own cur and prev counted in"
abbrev pub excluded_by : Writer → ℕ
excluded_by w = with_ticket (with_ticket w.excluded w.stamp.cur) w.stamp.prev

-- "until an open write takes its new ticket, its barred tickets, own cur and prev counted in, at most 2 plus 3 for each cell read";
-- from then on the ticket is one
abbrev pub tickets_ok : ℕ → Writer → Bool
tickets_ok n w = pick (leb w.moved n) (leb (ones (excluded_by w)) (2 + 3 * w.moved)) (ltb w.ticket 64)

-- "words moved at most 2n−1 in an open write"
abbrev pub open_write_ok : ℕ → Writer → Bool
open_write_ok n w = pick w.active (ltb w.moved (2 * n) && tickets_ok n w) true

unfoldable pub writer_ok : ℕ → Writer → Bool
writer_ok n w = stamp_ok w.stamp && open_write_ok n w

-- "2n+2 in a read's first attempt, n+3 to 3n+5 from its second on"
abbrev pub span_ok : ℕ → Bool → ℕ → Bool
span_ok n second moved = pick second (leb (n + 3) moved && leb moved (3 * n + 5)) (leb moved (2 * n + 2))

abbrev pub open_read_ok : ℕ → Reader → Bool
open_read_ok n r = pick r.active (span_ok n r.second r.moved) true

unfoldable pub reader_ok : ℕ → Reader → Bool
reader_ok n r = stamp_ok r.stamp && open_read_ok n r
