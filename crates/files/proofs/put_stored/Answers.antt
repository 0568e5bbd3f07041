use Rattle.std.proofs.Common.{arith, rules}
use mathlib.Core.Path.{refl, sym}
use Rattle.std.proofs.lemmas.Result.{err_from_is_err_and}
use lib.Seq.{length-take-le}
use Rattle.files.proofs.Parts.{in_front, not_stored_lem, all_stored}
use Rattle.files.proofs.put_stored.Goals as goal

pub slice_bounds-bytes-count : goal.slice_bounds-bytes-count
slice_bounds-bytes-count c = (in_front c.in_ok-store.ensures refl).size.some

pub slice_bounds-bytes-end : goal.slice_bounds-bytes-end
slice_bounds-bytes-end c =
    let F = in_front c.in_ok-store.ensures refl in
    omega (arith, F.size.few, c.store.auto.bytes)

pub slice_bounds-put_file-length : goal.slice_bounds-put_file-length
slice_bounds-put_file-length c =
    let F = in_front c.in_ok-store.ensures refl in
    sym (length-take-le _ _ (omega (arith, F.size.few, c.store.auto.bytes)))

pub slice_bounds-strips-end : goal.slice_bounds-strips-end
slice_bounds-strips-end c =
    let F = in_front c.in_ok-store.ensures refl in
    omega (arith, F.size.few, c.store.auto.rows)

pub slice_bounds-put_file-end : goal.slice_bounds-put_file-end
slice_bounds-put_file-end c =
    let F = in_front c.in_ok-store.ensures refl in
    sym (length-take-le _ _ (omega (arith, F.size.few, c.store.auto.rows)))

pub returns : goal.returns
returns c = all_stored c.in_ok-store.ensures refl (search rules)

pub returns-in_err-store : goal.returns-in_err-store
returns-in_err-store c =
    let p = err_from_is_err_and c.from_residual.result c.from_residual.ensures.1 in
    rw (p.1, p.2) (not_stored_lem c.in_err-store.ensures c.args.out.now _ refl)
