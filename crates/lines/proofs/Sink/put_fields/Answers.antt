use mathlib.Core.List.{flat_map}
use Rattle.lines.specs.Lines.{field}
use Rattle.lines.proofs.Adds.{no_text, next_of}
use Rattle.lines.proofs.Sink.put_fields.Goals as goal

pub loop-n-preserved : goal.loop-n-preserved
loop-n-preserved c = next_of field _ _ c.loop-n-test.true c.loop-n.invariant c.put_field.ensures

pub loop-n-init : goal.loop-n-init
unfolding flat_map
loop-n-init c = no_text _
