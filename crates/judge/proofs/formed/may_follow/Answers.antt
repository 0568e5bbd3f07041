use mathlib.Core.Path.{sym, ◌∙◌}
use Rattle.history.specs.WellFormed.{alternates}
use Rattle.judge.proofs.formed.may_follow.Goals as goal
use Rattle.judge.specs.Frame.{KeepsLittle}
use Rattle.judge.proofs.formed.may_follow.Code.{function}

keeps_little : KeepsLittle function
keeps_little = record { small = tt; inside = tt }

pub returns-then-is_begin : goal.returns-then-is_begin
unfolding alternates
returns-then-is_begin c = rw (sym c.is_begin.ensures ∙ c.if-is_begin.true)

pub returns-else-is_begin : goal.returns-else-is_begin
unfolding alternates
returns-else-is_begin c = rw (sym c.is_begin.ensures ∙ c.if-is_begin.false)
