use Rattle.lines.specs.Lines.{line_of}
use Rattle.lines.proofs.Adds.{then_adds}
use Rattle.lines.proofs.Sink.put_line.Goals as goal

pub returns : goal.returns
unfolding line_of
returns c = then_adds (then_adds c.put_text.ensures c.put_number.ensures) c.put.ensures
