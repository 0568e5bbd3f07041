use native.Mathlib.Omega.{arith}
use Rattle.lags.proofs.Figured.{log_formed, few, small, figures_are}
use Rattle.sheets.proofs.fill.figures.Goals as goal
use Rattle.sheets.specs.Frame.{KeepsLittle}
use Rattle.sheets.proofs.fill.figures.Code.{function}

keeps_little : KeepsLittle function
keeps_little = record { small = tt; inside = tt }

pub bounds-rows-0 : goal.bounds-rows-0
bounds-rows-0 c =
    omega (arith, (log_formed c.args.rows.now c.requires).size.some)

pub over_readers-total-requires : goal.over_readers-total-requires
over_readers-total-requires c =
    let r = c.args.rows.now in
    let b = small r c.requires c.lines-lines.ensures c.processor-n.ensures in
    (few r c.requires c.lines-lines.ensures c.processor-n.ensures, b.0, b.1)

pub returns : goal.returns
returns c =
    let t = c.over_readers-total.ensures in
    figures_are c.args.rows.now c.requires c.lines-lines.ensures c.processor-n.ensures t.reads t.lags
