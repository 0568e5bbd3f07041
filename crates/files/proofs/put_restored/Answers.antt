use Rattle.std.proofs.Common.{arith, rules}
use mathlib.Core.Path.{refl, sym}
use Rattle.std.proofs.lemmas.Result.{err_from_is_err_and}
use lib.Seq.{length-take-le}
use Rattle.judging.proofs.ByteLaws.{rows_inside, rows_count}
use Rattle.files.proofs.Parts.{long_array, few_rows, rest_refused, rest_restored}
use Rattle.files.proofs.put_restored.Goals as goal

pub slice_bounds-rows-end : goal.slice_bounds-rows-end
slice_bounds-rows-end c = rows_inside c.args.rest.now long_array c.rows_in-n.ensures

pub slice_bounds-restore-end : goal.slice_bounds-restore-end
slice_bounds-restore-end c = rows_count c.args.rest.now long_array c.rows_in-n.ensures

pub slice_bounds-log-end : goal.slice_bounds-log-end
slice_bounds-log-end c =
    omega (
      arith,
      few_rows c.args.rest.now c.requires c.rows_in-n.ensures c.in_ok-restore.ensures refl,
      c.restore.auto.log,
    )

pub slice_bounds-put_rows-end : goal.slice_bounds-put_rows-end
slice_bounds-put_rows-end c =
    let f = few_rows c.args.rest.now c.requires c.rows_in-n.ensures c.in_ok-restore.ensures refl in
    sym (length-take-le _ _ (omega (arith, f, c.restore.auto.log)))

pub returns : goal.returns
returns c = rest_restored c.args.rest.now c.requires c.rows_in-n.ensures c.in_ok-restore.ensures refl (search rules)

pub returns-in_err-restore : goal.returns-in_err-restore
returns-in_err-restore c =
    let p = err_from_is_err_and c.from_residual.result c.from_residual.ensures.1 in
    rw (p.1, p.2) (rest_refused c.args.rest.now c.requires c.rows_in-n.ensures c.in_err-restore.ensures c.args.out.now _ refl)
