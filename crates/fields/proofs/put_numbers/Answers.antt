use native.Mathlib.Omega.{arith}
use Rattle.fields.proofs.FieldLaws.{place_from}
use Rattle.fields.proofs.NumberLaws.{left_all, left_same, left_next, left_last}
use Rattle.fields.proofs.put_numbers.Goals as goal

pub loop-end-init : goal.loop-end-init
loop-end-init c = left_all _ _ _ c.place_of-end.ensures

pub slice_bounds-number_or_none-count : goal.slice_bounds-number_or_none-count
slice_bounds-number_or_none-count c = omega (arith, c.loop-end.invariant.end_is, place_from 32 c.args.line.now c.loop-end.at)

pub slice_bounds-number_or_none-start : goal.slice_bounds-number_or_none-start
slice_bounds-number_or_none-start c = omega (arith, c.loop-end.invariant.end_is, place_from 32 c.args.line.now c.loop-end.at)

pub overflow_add-k : goal.overflow_add-k
overflow_add-k c =
    let l = c.loop-end in
    omega (arith, l.invariant.few, l.invariant.end_is, place_from 32 c.args.line.now l.at)

pub loop-end-smaller : goal.loop-end-smaller
loop-end-smaller c =
    let l = c.loop-end in
    omega (arith, l.invariant.end_is, place_from 32 c.args.line.now l.at)

pub loop-end-preserved : goal.loop-end-preserved
loop-end-preserved c =
    let l = c.loop-end in
    left_next _ _ _ _ l.invariant c.put.ensures _ c.loop-end-test.true c.number_or_none.ensures c.place_of-end-in-loop-end.ensures

pub slice_bounds-number_or_none-count-2 : goal.slice_bounds-number_or_none-count-2
slice_bounds-number_or_none-count-2 c = c.loop-end.invariant.inside

pub slice_bounds-number_or_none-start-2 : goal.slice_bounds-number_or_none-start-2
slice_bounds-number_or_none-start-2 c = omega (arith, c.loop-end.invariant.inside)

pub shape_of-numbers : goal.shape_of-numbers
shape_of-numbers c = left_same _ _ _ _ c.loop-end.invariant c.put-2.ensures

pub returns : goal.returns
returns c =
    let l = c.loop-end in
    let both = left_last _ _ _ _ l.invariant c.put-2.ensures c.loop-end-test.false c.number_or_none-2.ensures in
    record { count = both.0; few = omega (arith, l.invariant.few, l.invariant.inside); numbers = both.1 }
