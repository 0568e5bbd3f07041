use mathlib.Core.List.{flat_map}
use Rattle.lines.proofs.Adds.{no_text, next_of}
use Rattle.drills.specs.Words.{number_line}
use Rattle.drills.proofs.line.put_lines.Goals as goal

pub loop-schedule-init : goal.loop-schedule-init
unfolding flat_map
loop-schedule-init c = no_text _

pub loop-schedule-preserved : goal.loop-schedule-preserved
loop-schedule-preserved c = next_of (number_line _ _ _ _) _ _ c.loop-schedule-test.true c.loop-schedule.invariant c.put_line.ensures
