use native.Mathlib.Omega.{arith}
use mathlib.Core.Path.{◌≡◌, sym, ap, ◌∙◌}
use Prim.Native.Nat.{◌+◌, ◌-◌}
use lib.ListN.{length, get_or, take, drop, length-drop}
use lib.Seq.{get_or-drop, take_all}
use Rattle.judging.specs.Answer.{begins_to}
use Rattle.judging.proofs.Steps.{begins_suc, begins_one, count_le}
use Rattle.judge.proofs.rows.count_begins.Goals as goal
use Rattle.judge.specs.Frame.{KeepsLittle}
use Rattle.judge.proofs.rows.count_begins.Code.{function}

keeps_little : KeepsLittle function
keeps_little = record { small = tt; inside = tt }

pub loop-row-init : goal.loop-row-init
loop-row-init c = (omega arith, sym (begins_one _))

pub loop-row-preserved : goal.loop-row-preserved
loop-row-preserved c =
    let l = c.loop-row in
    let r = c.args.rows.now in
    let rest : take (length r - 1) (drop 1 r) ≡ drop 1 r = take_all (length r - 1) (drop 1 r) (omega (arith, length-drop 1 r)) in
    let next : 1 + l.row-index ≡ l.row-index + 1 = omega arith in
    let e = rw (rest, get_or-drop 1 r l.row-index 0, next) at c.count_after-n.ensures in (
      omega (arith, e, count_le (get_or r (l.row-index + 1) 0) l.n),
      e ∙ rw l.invariant.1 (sym (begins_suc r (l.row-index + 1) (omega arith))),
    )

pub returns : goal.returns
returns c =
    let l = c.loop-row in
    let r = c.args.rows.now in
    let rest : take (length r - 1) (drop 1 r) ≡ drop 1 r = take_all (length r - 1) (drop 1 r) (omega (arith, length-drop 1 r)) in
    let all : l.row-index + 1 ≡ length r = omega (arith, c.requires, length-drop 1 r, ap length rest) in
    l.invariant.1 ∙ ap (begins_to r) all
