use mathlib.Core.Path.{refl}
use native.Mathlib.Omega.{arith}
use Rattle.logbytes.proofs.Laws.{rows_odd, rows_many, reads_none, reads_all}
use Rattle.logbytes.proofs.rows_in.Goals as goal
use Rattle.logbytes.proofs.rows_in.Goals.{then-bytes-ne0-via-then-bytes-ne0, then-bytes-ne0-via-else-bytes-ne0+then-rows-count}

pub returns-then-bytes-ne0 : goal.returns-then-bytes-ne0
returns-then-bytes-ne0 c =
    let a = c.args in
    elim c.then-bytes-ne0.branch [
      | then-bytes-ne0-via-then-bytes-ne0 w ↦ reads_none a.bytes.now a.rows.now 0 (rows_odd _ _ w.if-bytes-ne0.true) refl
      | then-bytes-ne0-via-else-bytes-ne0+then-rows-count w ↦
          reads_none a.bytes.now a.rows.now 0 (rows_many _ _ w.if-bytes-ne0.false w.if-rows-count.true) refl
    ]

pub returns : goal.returns
returns c =
    let a = c.args in
    reads_all a.bytes.now a.rows.now _ _ c.if-bytes-ne0.false (omega (arith, c.if-rows-count.false)) c.read_rows.ensures refl
