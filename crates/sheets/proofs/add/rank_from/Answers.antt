use native.Mathlib.Omega.{arith}
use mathlib.Core.Path.{◌≡◌, sym, ap, ◌∙◌}
use Prim.Native.Nat.{max}
use Rattle.lags.specs.Lag.{rank_of}
use Rattle.lags.proofs.Counting.{rank_suc, rank_few}
use Rattle.sheets.proofs.add.rank_from.Goals as goal
use Rattle.sheets.specs.Frame.{KeepsLittle}
use Rattle.sheets.proofs.add.rank_from.Code.{function}

keeps_little : KeepsLittle function
keeps_little = record { small = tt; inside = tt }

pub loop-j-init : goal.loop-j-init
loop-j-init c = (omega arith, c.requires.1)

pub with_write-n-requires : goal.with_write-n-requires
with_write-n-requires c =
    let l = c.loop-j in
    omega (arith, rank_few c.args.rows.now l.j)

pub loop-j-preserved : goal.loop-j-preserved
loop-j-preserved c =
    let l = c.loop-j in
    (omega arith, c.with_write-n.ensures ∙ rw l.invariant.1 (sym (rank_suc _ l.j)))

pub returns : goal.returns
returns c =
    let l = c.loop-j in
    let a = c.args in
    let e : l.j ≡ max a.f a.q = omega arith in
    l.invariant.1 ∙ ap (rank_of a.rows.now) e
