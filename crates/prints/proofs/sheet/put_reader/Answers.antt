use Rattle.printing.specs.Sheet.{reader_line}
use Rattle.lines.proofs.Adds.{then_adds}
use Rattle.prints.proofs.sheet.put_reader.Goals as goal

pub returns : goal.returns
unfolding reader_line
returns c = then_adds (then_adds c.put_text.ensures c.put_number.ensures) c.put_end.ensures
