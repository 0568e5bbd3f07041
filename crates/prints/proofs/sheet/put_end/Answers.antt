use Rattle.printing.specs.Sheet.{lag_end}
use Rattle.lines.proofs.Adds.{then_adds}
use Rattle.prints.proofs.sheet.put_end.Goals as goal

pub returns : goal.returns
unfolding lag_end
returns c = then_adds (then_adds c.put_text.ensures c.put_number.ensures) c.put_line.ensures
