use Rattle.printing.specs.Sizing.{answer_line}
use Rattle.lines.proofs.Adds.{then_adds}
use Rattle.sizes.proofs.print.put_too_long.Goals as goal

pub returns : goal.returns
unfolding answer_line
returns c = then_adds (then_adds c.put_text.ensures c.put_number.ensures) c.put_text-2.ensures
