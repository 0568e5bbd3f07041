use Rattle.printing.specs.Sizing.{figures_line}
use Rattle.lines.proofs.Adds.{then_adds}
use Rattle.sizes.proofs.print.put_figures.Goals as goal

pub returns : goal.returns
unfolding figures_line
returns c =
    then_adds (then_adds (then_adds (then_adds (then_adds c.put_text.ensures c.put_text-2.ensures) c.put_number.ensures) c.put_text-3.ensures) c.put_number-2.ensures)
    c.put_line.ensures
