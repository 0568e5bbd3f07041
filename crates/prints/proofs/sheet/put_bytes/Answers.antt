use Rattle.judging.proofs.ByteLaws.{rows_inside, rows_count}
use Rattle.prints.proofs.Verdicts.{places, put_read}
use Rattle.printing.proofs.Laws.{sheet_nine}
use Rattle.prints.proofs.sheet.put_bytes.Goals as goal

pub slice_bounds-rows-end : goal.slice_bounds-rows-end
slice_bounds-rows-end c = rows_inside c.args.bytes.now places c.rows_in-count.ensures

pub slice_bounds-put_sheet-end : goal.slice_bounds-put_sheet-end
slice_bounds-put_sheet-end c = rows_count c.args.bytes.now places c.rows_in-count.ensures

pub returns : goal.returns
returns c =
    put_read _ sheet_nine c.args.bytes.now c.rows_in-count.ensures c.put_sheet.ensures
