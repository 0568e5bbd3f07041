use native.Mathlib.Omega.{arith}
use mathlib.Core.Path.{refl, ◌∙◌}
use lib.ListN.{get_or, length-set}
use Rattle.store.proofs.Nexts.{some_rows, fewer_bytes, putting_start, over_log, all_put, row_in, row_small, place_in, one_put}
use Rattle.store.proofs.back.put_log.Goals as goal

pub put_starts-requires : goal.put_starts-requires
put_starts-requires c =
    (omega (arith, c.requires.1, fewer_bytes c.args.bytes.now c.args.rows.now c.requires.0), refl)

pub bounds-rows-0 : goal.bounds-rows-0
bounds-rows-0 c = some_rows c.args.bytes.now c.args.rows.now c.requires.0

pub bounds-log-0 : goal.bounds-log-0
bounds-log-0 c = omega (arith, c.requires.2, some_rows c.args.bytes.now c.args.rows.now c.requires.0)

pub loop-k-init : goal.loop-k-init
loop-k-init c =
    let p = c.put_starts in
    putting_start c.args.bytes.now c.args.rows.now c.requires.0 c.args.log.now _ c.requires.1 c.requires.2 p.auto.next p.ensures

pub bounds-next-p : goal.bounds-next-p
bounds-next-p c = omega arith

pub offset_bounds-rows-next : goal.offset_bounds-rows-next
offset_bounds-rows-next c =
    let l = c.loop-k in
    omega (arith, l.invariant.few, place_in l.invariant (omega arith) c.from-p.ensures (omega arith))

pub bounds-rows-next : goal.bounds-rows-next
bounds-rows-next c = place_in c.loop-k.invariant (omega arith) c.from-p.ensures (omega arith)

pub offset_bounds-log-k : goal.offset_bounds-log-k
offset_bounds-log-k c = omega (arith, row_small c.loop-k.invariant (omega arith))

pub bounds-log-k : goal.bounds-log-k
bounds-log-k c = row_in c.loop-k.invariant (omega arith)

pub overflow_add-next : goal.overflow_add-next
overflow_add-next c =
    let l = c.loop-k in
    omega (arith, l.invariant.few, place_in l.invariant (omega arith) c.from-p.ensures (omega arith))

pub bounds-next-p-in-loop-k : goal.bounds-next-p-in-loop-k
bounds-next-p-in-loop-k c = omega arith

pub loop-k-preserved : goal.loop-k-preserved
loop-k-preserved c = one_put c.loop-k.invariant (omega arith) c.from-p.ensures (omega arith)

pub shape_of-log : goal.shape_of-log
shape_of-log c =
    c.loop-k.invariant.same_length ∙ length-set c.args.log.now 0 (get_or c.args.rows.now 0 0)

pub returns : goal.returns
returns c =
    all_put c.loop-k.invariant (omega arith) ∙ over_log c.args.bytes.now c.args.rows.now c.requires.0 c.args.log.now c.requires.2
