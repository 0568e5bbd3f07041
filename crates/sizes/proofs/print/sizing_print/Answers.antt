use Rattle.std.proofs.Common.{arith, rules}
use Rattle.lines.proofs.Puts.{whole}
use Rattle.printing.proofs.SizingShort.{sizing_short}
use Rattle.sizes.proofs.print.sizing_print.Goals as goal

pub returns-clause-whole : goal.returns-clause-whole
returns-clause-whole c = λ room. whole {l = c.args.out.now} (search rules) (omega (arith, sizing_short c.args.bytes.now, room))
