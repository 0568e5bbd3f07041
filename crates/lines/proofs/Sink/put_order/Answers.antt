use Rattle.lines.specs.Lines.{order_line}
use Rattle.lines.proofs.Adds.{then_adds}
use Rattle.lines.proofs.Sink.put_order.Goals as goal

pub returns : goal.returns
unfolding order_line
returns c = then_adds (then_adds c.put_text.ensures c.put_fields.ensures) c.put.ensures
