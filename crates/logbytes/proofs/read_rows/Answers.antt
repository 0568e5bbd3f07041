use mathlib.Core.Path.{◌≡◌, refl, ◌∙◌}
use native.Mathlib.Omega.{arith}
use Rattle.logbytes.specs.Bytes.{read_rows, read_into}
use Rattle.logbytes.proofs.Laws.{read_next}
use Rattle.logbytes.proofs.read_rows.Goals as goal

pub loop-i-init : goal.loop-i-init
unfolding read_rows
loop-i-init c = refl

pub loop-i-preserved : goal.loop-i-preserved
loop-i-preserved c =
    let a = c.args in
    let l = c.loop-i in
    rw (l.invariant, c.word_at.ensures) (read_next l.i a.bytes.now a.rows.now (omega arith))

pub returns : goal.returns
unfolding read_into
returns c =
    let l = c.loop-i in
    let e : l.i ≡ c.min-count.result = omega arith in
    l.invariant ∙ rw (e, c.min-count.ensures)
