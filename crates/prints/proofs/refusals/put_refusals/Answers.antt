use mathlib.Core.List.{flat_map}
use Rattle.lines.proofs.Adds.{no_text, next_of}
use Rattle.prints.specs.Words.{refusal_text}
use Rattle.prints.proofs.refusals.put_refusals.Goals as goal

pub loop-answer-init : goal.loop-answer-init
unfolding flat_map
loop-answer-init c = no_text _

pub loop-answer-preserved : goal.loop-answer-preserved
loop-answer-preserved c = next_of refusal_text _ _ c.loop-answer-test.true c.loop-answer.invariant c.put_refusal.ensures
