use Rattle.std.proofs.Common.{arith, rules}
use Rattle.lines.proofs.Puts.{whole}
use Rattle.printing.proofs.Short.{bench_short}
use Rattle.prints.proofs.bench.bench_print.Goals as goal

pub returns-clause-whole : goal.returns-clause-whole
returns-clause-whole c = λ room. whole {l = c.args.out.now} (search rules) (omega (arith, bench_short c.args.bytes.now, room))
