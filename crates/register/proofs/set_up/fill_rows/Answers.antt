use mathlib.Core.Path.{◌≡◌, ◌∙◌}
use native.Mathlib.Omega.{arith}
use Rattle.register.proofs.FreshLaws.{row_first, row_more}
use Rattle.register.proofs.set_up.fill_rows.Goals as goal

pub loop-i-init : goal.loop-i-init
loop-i-init c = let a = c.args in c.fill_at.ensures ∙ row_first a.n a.own a.other a.table.now

pub loop-i-preserved : goal.loop-i-preserved
loop-i-preserved c =
    let a = c.args in
    let l = c.loop-i in
    c.fill_at-in-loop-i.ensures ∙ row_more a.n a.own a.other a.table.now l.table l.i l.auto.i l.invariant

pub returns : goal.returns
returns c = let e : c.loop-i.i ≡ c.args.rows = omega (arith, c.requires.0, c.loop-i.auto.i-end c.requires.0) in rw (← e) c.loop-i.invariant
