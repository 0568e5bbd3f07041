use Rattle.printing.specs.Print.{log_print}
use Rattle.lines.proofs.Adds.{then_adds}
use Rattle.prints.proofs.log.put_log.Goals as goal

pub returns : goal.returns
unfolding log_print
returns c = then_adds (then_adds c.put_readers.ensures c.list_rows.ensures) c.put_verdict.ensures
