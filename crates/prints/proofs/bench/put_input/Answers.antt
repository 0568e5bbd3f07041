use native.Mathlib.Omega.{arith}
use lib.ListN.{length-take}
use mathlib.Core.Path.{refl}
use Rattle.prints.proofs.Input.{too_long, no_feed, bad_first, good_first_lem}
use Rattle.prints.proofs.bench.put_input.Goals as goal

pub returns-then-bytes-gt65536 : goal.returns-then-bytes-gt65536
returns-then-bytes-gt65536 c = too_long _ (omega (arith, c.if-bytes-gt65536.true)) c.put_bad.ensures

pub returns-then-end-bytes : goal.returns-then-end-bytes
returns-then-end-bytes c = no_feed _ _ c.if-bytes-gt65536.false c.place_of-end.ensures c.if-end-bytes.true c.put_bad-then-end-bytes.ensures

pub slice_bounds-read_array-end : goal.slice_bounds-read_array-end
slice_bounds-read_array-end c = omega (arith, length-take c.place_of-end.result c.args.bytes.now)

pub returns-in-Some : goal.returns-in-Some
returns-in-Some c =
    let first = c.in-Some.ensures in
    good_first_lem _ c.place_of-end.result c.if-bytes-gt65536.false c.place_of-end.ensures c.if-end-bytes.false _ refl _ first.1 first.0 c.put_script.ensures

pub returns-in-None : goal.returns-in-None
returns-in-None c =
    bad_first _ c.place_of-end.result c.if-bytes-gt65536.false c.place_of-end.ensures c.if-end-bytes.false _ refl c.in-None.ensures c.put_bad-in-None.ensures
