use native.Mathlib.Omega.{arith}
use Rattle.common.proofs.Buffers.{set_part}
use Rattle.steps.proofs.cells.store_word.Goals as goal

pub returns : goal.returns
returns g c =
    let a = c.args in
    let P = g.met.P.Protocol in
    let p = c.requires in
    let at = P.place_is a.n a.i a.j in
    rw (c.put_word.ensures, ← at, c.row_start-at.ensures, c.in_row.ensures)
    (set_part a.table.now (g.P.Protocol.row_start a.n a.i) (g.P.Protocol.in_row a.i a.j) a.word (omega (arith, P.place_low a.n a.i a.j p.1, at, p.0.cells_are)))
