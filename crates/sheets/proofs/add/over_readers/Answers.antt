use native.Mathlib.Omega.{arith}
use mathlib.Core.Path.{sym}
use Prim.Native.Nat.{◌+◌}
use Rattle.lags.proofs.Totals.{over_zero, over_suc}
use Rattle.sheets.proofs.add.over_readers.Goals as goal
use Rattle.sheets.specs.Frame.{KeepsLittle}
use Rattle.sheets.proofs.add.over_readers.Code.{function}

keeps_little : KeepsLittle function
keeps_little = record { small = tt; inside = tt }

pub loop-i-init : goal.loop-i-init
loop-i-init c = (omega arith, omega arith, sym (over_zero _), sym (over_zero _))

pub overflow_add-reads : goal.overflow_add-reads
overflow_add-reads c = let l = c.loop-i in omega (arith, c.requires.1 (l.i + 1))

pub overflow_add-lags : goal.overflow_add-lags
overflow_add-lags c = let l = c.loop-i in omega (arith, c.requires.2 (l.i + 1))

pub loop-i-preserved : goal.loop-i-preserved
loop-i-preserved c =
    let l = c.loop-i in (
      omega (arith, c.requires.1 (l.i + 1)),
      omega (arith, c.requires.2 (l.i + 1)),
      rw l.invariant.2 (sym (over_suc _ l.i)),
      rw l.invariant.3 (sym (over_suc _ l.i)),
    )
