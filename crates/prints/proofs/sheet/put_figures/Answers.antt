use Rattle.printing.specs.Sheet.{figures_text}
use Rattle.lines.proofs.Adds.{then_adds}
use Rattle.prints.proofs.sheet.put_figures.Goals as goal

pub returns : goal.returns
unfolding figures_text
returns c = then_adds (then_adds c.put_readers.ensures c.put_text.ensures) c.put_end.ensures
