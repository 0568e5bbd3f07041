use Rattle.std.proofs.Common.{arith, rules}
use Rattle.lines.proofs.Puts.{whole}
use Rattle.printing.proofs.DrillShort.{drill_short}
use Rattle.drills.proofs.print.drill_print.Goals as goal

pub returns-clause-whole : goal.returns-clause-whole
returns-clause-whole c = λ room. whole {l = c.args.out.now} (search rules) (omega (arith, drill_short c.args.bytes.now, room))
