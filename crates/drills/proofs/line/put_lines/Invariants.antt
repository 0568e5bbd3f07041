use mathlib.Core.List.{flat_map}
use lib.ListN.{take}
use Rattle.lines.specs.Adds.{Adds}
use Rattle.drills.specs.Words.{number_line}
use Rattle.drills.proofs.line.put_lines.Given as goal

abbrev pub invariant-loop-schedule : goal.invariant-loop-schedule
invariant-loop-schedule l = Adds (flat_map (number_line l.n l.start l.v l.turns) (take l.schedule-index l.list)) l.initial.out l.out
