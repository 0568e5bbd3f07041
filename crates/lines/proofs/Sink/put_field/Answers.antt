use Rattle.lines.specs.Lines.{field}
use Rattle.lines.proofs.Adds.{then_adds}
use Rattle.lines.proofs.Sink.put_field.Goals as goal

pub returns : goal.returns
unfolding field
returns c = then_adds c.put.ensures c.put_number.ensures
