-- A sub-step of a write: "A write of v: 2n sub-steps".
use Rattle.std.specs.Prelude.{ℕ, ◌+◌, ◌-◌, ◌*◌, List, true, false, ltb, eqb}
use Rattle.words.specs.declared.stamp.Stamp.{Stamp}
use Rattle.words.specs.Choice.{pick}
use Rattle.common.specs.declared.Writer.{Writer}
use Rattle.common.specs.Rules.{WriteStep}
use Rattle.protocol.specs.Table.{view, store, plain}
use Rattle.protocol.specs.Tickets.{with_cell, walk_on}
use Rattle.protocol.specs.State.{excluded_by}

-- "Sub-steps 1..n read the readers' cells to the writer, readers 1..n."
abbrev pub writer_reads : ℕ → Writer → List ℕ → Writer
writer_reads n w t = record w { active = true; moved = w.moved + 1; excluded = with_cell w.excluded (view n t (w.moved + 1) 0) }

-- "The new ticket, taken at sub-step n+1 before its store", walks on from the writer's cur.
unfoldable pub ticket_of : ℕ → Writer → ℕ
ticket_of n w = pick (eqb w.moved n) (walk_on (3 * n + 2) w.stamp.cur (excluded_by w)) w.ticket

-- "New stamp: (that ticket, old cur)."
abbrev pub new_stamp : ℕ → Writer → Stamp
new_stamp n w = record { cur = ticket_of n w; prev = w.stamp.cur }

abbrev pub writer_stores : ℕ → Writer → Writer
writer_stores n w = record w { active = true; moved = w.moved + 1; ticket = ticket_of n w }

abbrev pub writer_ends : ℕ → Writer → Writer
writer_ends n w = record w { active = false; moved = w.moved + 1; ticket = ticket_of n w; stamp = new_stamp n w }

-- "Sub-steps n+1..2n store v with the new stamp to readers 1..n."
unfoldable pub write_step : ℕ → Writer → List ℕ → WriteStep
write_step n w t =
    pick (ltb w.moved n) (record { writer = writer_reads n w t; table = t })
    (record {
      writer = pick (ltb (w.moved + 1) (2 * n)) (writer_stores n w) (writer_ends n w);
      table = store n t 0 (w.moved - n + 1) (plain w.value (new_stamp n w));
    })
