use borrow.Author.Tests.{eq-eqb, ne_eqb}
use Rattle.history.specs.Rows.{kind_of}
use Rattle.judge.proofs.row.kind.Goals as goal
use Rattle.judge.specs.Frame.{KeepsLittle}
use Rattle.judge.proofs.row.kind.Code.{function}

keeps_little : KeepsLittle function
keeps_little = record { small = tt; inside = tt }

pub returns-then-bits-eq-BAND : goal.returns-then-bits-eq-BAND
unfolding kind_of
returns-then-bits-eq-BAND c = rw (eq-eqb _ _ c.if-bits-eq-BAND.true)

pub returns-else-bits-eq-BAND : goal.returns-else-bits-eq-BAND
unfolding kind_of
returns-else-bits-eq-BAND c = rw (ne_eqb _ _ c.if-bits-eq-BAND.false)
