use Rattle.std.proofs.Common.{arith, ◌≡◌, true, false}
use Rattle.std.proofs.lemmas.Bool.Decides.{nat_tests}
use Rattle.common.specs.SetUp.{readers_fit}
use Rattle.lines.proofs.Puts.{within}
use Rattle.drills.proofs.Lists.{drill_is, no_register}
use Rattle.drills.proofs.print.put_drill.Goals as goal

pub slice_bounds-put_lines-end : goal.slice_bounds-put_lines-end
slice_bounds-put_lines-end c = (within c.list_schedules-count.ensures.list).1

pub returns-then-n-le16 : goal.returns-then-n-le16
returns-then-n-le16 c =
    let fit : readers_fit c.args.n ≡ true = grind (arith, nat_tests) in
    drill_is _ _ _ _ _ fit c.requires c.list_schedules-count.ensures.list c.put_lines.ensures

pub returns-else-n-ge1 : goal.returns-else-n-ge1
returns-else-n-ge1 c =
    let fit : readers_fit c.args.n ≡ false = grind (arith, nat_tests) in
    no_register _ _ _ _ _ fit c.put_refused.ensures
