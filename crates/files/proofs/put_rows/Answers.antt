use native.Mathlib.Omega.{arith}
use lib.Seq.{take_all}
use Rattle.logbytes.specs.Bytes.{bytes_of}
use Rattle.logbytes.proofs.Laws.{bytes_next}
use Rattle.lines.proofs.Adds.{no_text, then_adds}
use Rattle.files.proofs.put_rows.Goals as goal

pub loop-row-init : goal.loop-row-init
unfolding bytes_of
loop-row-init c = no_text _

pub loop-row-preserved : goal.loop-row-preserved
loop-row-preserved c =
    let l = c.loop-row in
    rw (bytes_next c.args.rows.now l.row-index (omega arith), ← c.to_be_bytes.ensures) (then_adds l.invariant c.put_text.ensures)

pub returns : goal.returns
returns c =
    let l = c.loop-row in
    rw (take_all l.row-index c.args.rows.now (omega arith)) at l.invariant
