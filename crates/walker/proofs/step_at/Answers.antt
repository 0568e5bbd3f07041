use Rattle.std.proofs.Common.{sym}
use Rattle.walker.proofs.Laws.{step_inside, step_behind}
use Rattle.walker.proofs.step_at.Goals as goal

pub returns-then-k-log : goal.returns-then-k-log
returns-then-k-log c = sym (step_inside _ _ c.if-k-log.true)

pub returns-else-k-log : goal.returns-else-k-log
returns-else-k-log c = sym (step_behind _ _ c.if-k-log.false)
