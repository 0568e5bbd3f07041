use Rattle.prints.proofs.SheetTexts.{few_readers, put_filled, put_refused}
use Rattle.prints.proofs.sheet.put_sheet.Goals as goal

pub put_figures-requires : goal.put_figures-requires
put_figures-requires c = few_readers c.args.rows.now c.in-Ok.ensures

pub returns-in-Ok : goal.returns-in-Ok
returns-in-Ok c = put_filled c.args.rows.now c.in-Ok.ensures c.put_figures.ensures

pub returns-in-Err : goal.returns-in-Err
returns-in-Err c = put_refused c.args.rows.now c.in-Err.ensures c.put_refusal.ensures
