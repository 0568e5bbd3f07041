use native.Mathlib.Omega.{arith}
use Rattle.files.proofs.Parts.{too_short, too_few, whole_rows}
use Rattle.files.proofs.is_whole.Goals as goal

pub returns-then-file-lt8 : goal.returns-then-file-lt8
returns-then-file-lt8 c = too_short c.args.file.now c.if-file-lt8.true

pub returns-then-behind-count : goal.returns-then-behind-count
returns-then-behind-count c = too_few c.args.file.now c.if-file-lt8.false (omega (arith, c.count_in-count.ensures))

pub returns : goal.returns
returns c =
    let f = c.args.file.now in
    rw c.count_in-count.ensures (whole_rows f c.if-file-lt8.false (omega (arith, c.count_in-count.ensures)))
