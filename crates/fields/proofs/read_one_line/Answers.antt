use native.Mathlib.Omega.{arith}
use Rattle.fields.proofs.OneLine.{place_inside, line_within, line_read}
use Rattle.fields.proofs.read_one_line.Goals as goal

pub slice_bounds-read_numbers-end : goal.slice_bounds-read_numbers-end
slice_bounds-read_numbers-end c = line_within _ _ c.place_of-end.ensures

pub overflow_sub-result : goal.overflow_sub-result
overflow_sub-result c =
    omega (arith, place_inside 10 c.args.bytes.now, c.place_of-end.ensures)

pub returns : goal.returns
returns c =
    let n = c.read_numbers-good.ensures in let both = line_read _ _ c.place_of-end.ensures _ _ _ _ n.good n.numbers in record { good = both.0; numbers = both.1 }
