use borrow.Author.Tests.{eq-eqb, ne_eqb}
use Rattle.lags.specs.Lag.{with_write}
use Rattle.sheets.proofs.add.with_write.Goals as goal
use Rattle.sheets.specs.Frame.{KeepsLittle}
use Rattle.sheets.proofs.add.with_write.Code.{function}

keeps_little : KeepsLittle function
keeps_little = record { small = tt; inside = tt }

pub returns-then-kind-eq1 : goal.returns-then-kind-eq1
unfolding with_write
returns-then-kind-eq1 c = rw (← c.kind.ensures, eq-eqb _ _ c.if-kind-eq1.true)

pub returns-else-kind-eq1 : goal.returns-else-kind-eq1
unfolding with_write
returns-else-kind-eq1 c = rw (← c.kind.ensures, ne_eqb _ _ c.if-kind-eq1.false)
