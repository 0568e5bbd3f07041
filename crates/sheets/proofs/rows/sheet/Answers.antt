use Rattle.judging.proofs.Said.{none_no}
use Rattle.lags.proofs.Meaning.{says_filled, says_none}
use Rattle.sheets.proofs.rows.sheet.Goals as goal
use Rattle.sheets.specs.Frame.{KeepsLittle}
use Rattle.sheets.proofs.rows.sheet.Code.{function}

keeps_little : KeepsLittle function
keeps_little = record { small = tt; inside = tt }

pub figures-requires : goal.figures-requires
figures-requires c = none_no _ _ c.settle.ensures c.in-Ok.is

pub returns-in-Ok : goal.returns-in-Ok
returns-in-Ok c = says_filled c.args.rows.now (none_no _ _ c.settle.ensures c.in-Ok.is) c.figures.ensures

pub returns-in-Err : goal.returns-in-Err
returns-in-Err c = says_none c.args.rows.now c.in-Err.fault c.in-Err.ensures
