use mathlib.Core.Path.{sym, ◌∙◌}
use Rattle.judging.specs.Answer.{count_after}
use Rattle.judge.proofs.rows.count_after.Goals as goal
use Rattle.judge.specs.Frame.{KeepsLittle}
use Rattle.judge.proofs.rows.count_after.Code.{function}

keeps_little : KeepsLittle function
keeps_little = record { small = tt; inside = tt }

pub returns-then-is_begin : goal.returns-then-is_begin
unfolding count_after
returns-then-is_begin c = rw (sym c.is_begin.ensures ∙ c.if-is_begin.true)

pub returns-else-is_begin : goal.returns-else-is_begin
unfolding count_after
returns-else-is_begin c = rw (sym c.is_begin.ensures ∙ c.if-is_begin.false)
