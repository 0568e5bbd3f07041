use Rattle.std.proofs.Common.{take}
use Rattle.lines.specs.Adds.{Adds}
use Rattle.lines.proofs.Sink.put_text.Given as goal

abbrev pub invariant-loop-b : goal.invariant-loop-b
invariant-loop-b l = Adds (take l.b-index l.text) l.initial.self l.self
