use Rattle.std.proofs.Common.{take}
use mathlib.Core.List.{flat_map}
use Rattle.lines.specs.Lines.{field}
use Rattle.lines.specs.Adds.{Adds}
use Rattle.lines.proofs.Sink.put_fields.Given as goal

abbrev pub invariant-loop-n : goal.invariant-loop-n
invariant-loop-n l = Adds (flat_map field (take l.n-index l.numbers)) l.initial.self l.self
