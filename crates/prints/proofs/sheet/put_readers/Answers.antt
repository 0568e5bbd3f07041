use native.Mathlib.Omega.{arith}
use mathlib.Core.Path.{◌≡◌}
use Rattle.prints.proofs.SheetTexts.{no_readers, next_reader}
use Rattle.prints.proofs.sheet.put_readers.Goals as goal

pub loop-i-init : goal.loop-i-init
loop-i-init c = no_readers _ _

pub loop-i-preserved : goal.loop-i-preserved
loop-i-preserved c = let l = c.loop-i in next_reader _ l.i l.invariant c.put_reader.ensures

pub returns : goal.returns
returns c =
    let l = c.loop-i in
    let e : l.i ≡ c.args.n = omega arith in
    rw e at l.invariant
