use borrow.Author.Tests.{eq-eqb, ne_eqb}
use Rattle.history.specs.Rows.{begins}
use Rattle.judge.proofs.row.is_begin.Goals as goal
use Rattle.judge.specs.Frame.{KeepsLittle}
use Rattle.judge.proofs.row.is_begin.Code.{function}

keeps_little : KeepsLittle function
keeps_little = record { small = tt; inside = tt }

pub returns-then-told-eq1 : goal.returns-then-told-eq1
unfolding begins
returns-then-told-eq1 c = rw (← c.kind-told.ensures, eq-eqb _ _ c.if-told-eq1.true)

pub returns-else-told-eq1 : goal.returns-else-told-eq1
unfolding begins
returns-else-told-eq1 c = rw (← c.kind-told.ensures, ne_eqb _ _ c.if-told-eq1.false)
