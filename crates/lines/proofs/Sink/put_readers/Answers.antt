use Rattle.lines.specs.Lines.{readers_line}
use Rattle.lines.proofs.Adds.{then_adds}
use Rattle.lines.proofs.Sink.put_readers.Goals as goal

pub returns : goal.returns
unfolding readers_line
returns c = then_adds (then_adds c.put_text.ensures c.put_number.ensures) c.put_line.ensures
