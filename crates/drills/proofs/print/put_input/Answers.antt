use Rattle.std.proofs.Common.{arith, ◌≡◌, ◌+◌, true, false, get_or}
use Rattle.std.proofs.lemmas.Bool.Decides.{nat_tests}
use Rattle.drills.proofs.Input.{good_turns, not_read, bad_turns, good_drill}
use Rattle.drills.proofs.print.put_input.Goals as goal

pub returns-in-None : goal.returns-in-None
returns-in-None c = not_read _ c.in-None.ensures c.put_bad-in-None.ensures

pub returns-then-turns-le16 : goal.returns-then-turns-le16
returns-then-turns-le16 c =
    let ns = c.in-Some.numbers in
    let t : good_turns (get_or ns 3 0 + get_or ns 4 0) ≡ true = grind (arith, nat_tests) in
    good_drill _ ns c.in-Some.ensures.0 c.in-Some.ensures.1 t c.put_drill.ensures

pub returns-else-turns-ge1 : goal.returns-else-turns-ge1
returns-else-turns-ge1 c =
    let ns = c.in-Some.numbers in
    let t : good_turns (get_or ns 3 0 + get_or ns 4 0) ≡ false = grind (arith, nat_tests) in
    bad_turns _ ns c.in-Some.ensures.0 c.in-Some.ensures.1 t c.put_bad.ensures
