use Rattle.std.proofs.Common.{arith, rules}
use Rattle.lines.proofs.Puts.{whole}
use Rattle.printing.proofs.SheetShort.{sheet_short}
use Rattle.prints.proofs.sheet.sheet_print.Goals as goal

pub returns-clause-whole : goal.returns-clause-whole
returns-clause-whole c = λ room. whole {l = c.args.out.now} (search rules) (omega (arith, sheet_short c.args.bytes.now, room))
