use native.Mathlib.Omega.{arith}
use Rattle.judging.proofs.ByteLaws.{rows_front, rows_inside, rows_count}
use Rattle.lines.proofs.Puts.{within, whole}
use Rattle.storing.specs.File.{store_file}
use Rattle.storing.proofs.FileBack.{stored_length}
use Rattle.files.specs.Made.{Made}
use Rattle.files.proofs.Parts.{row_array}
use Rattle.files.proofs.store_file.Goals as goal

pub slice_bounds-rows-end : goal.slice_bounds-rows-end
slice_bounds-rows-end c = rows_inside c.args.log.now row_array c.rows_in-n.ensures

pub slice_bounds-put_stored-end : goal.slice_bounds-put_stored-end
slice_bounds-put_stored-end c = rows_count c.args.log.now row_array c.rows_in-n.ensures

pub returns : goal.returns
unfolding store_file
returns c =
    let b = c.args.log.now in
    let m : Made (store_file b) _ _ _ = rw (rows_front b row_array c.rows_in-n.ensures) at c.put_stored.ensures in
    record { made = m; within = within m.put; whole = λ room. whole m.put (omega (arith, stored_length b, room)) }
