use borrow.Author.Tests.{eq-eqb, ne_eqb}
use Rattle.sheets.proofs.add.one_read.Goals as goal
use Rattle.sheets.specs.Frame.{KeepsLittle}
use Rattle.sheets.proofs.add.one_read.Code.{function}

keeps_little : KeepsLittle function
keeps_little = record { small = tt; inside = tt }

pub returns-then-kind-eq4 : goal.returns-then-kind-eq4
returns-then-kind-eq4 c = rw (← c.kind.ensures, eq-eqb _ _ c.if-kind-eq4.true)

pub returns-else-kind-eq4 : goal.returns-else-kind-eq4
returns-else-kind-eq4 c = rw (← c.kind.ensures, ne_eqb _ _ c.if-kind-eq4.false)
