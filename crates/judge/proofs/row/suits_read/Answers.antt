use borrow.Author.Tests.{eq-eqb, ne_eqb, le-leb, lt-leb}
use Rattle.history.specs.Rows.{within, suits}
use Rattle.judge.proofs.row.suits_read.Goals as goal
use Rattle.judge.specs.Frame.{KeepsLittle}
use Rattle.judge.proofs.row.suits_read.Code.{function}

keeps_little : KeepsLittle function
keeps_little = record { small = tt; inside = tt }

pub returns-then-value-v : goal.returns-then-value-v
unfolding suits within
returns-then-value-v c = rw (eq-eqb _ _ c.if-row-eq-BAND.true, le-leb _ _ c.if-value-v.true)

pub returns-else-value-v : goal.returns-else-value-v
unfolding suits within
returns-else-value-v c = rw (eq-eqb _ _ c.if-row-eq-BAND.true, lt-leb _ _ c.if-value-v.false)

pub returns-else-row-eq-BAND : goal.returns-else-row-eq-BAND
unfolding suits within
returns-else-row-eq-BAND c = rw (ne_eqb _ _ c.if-row-eq-BAND.false)
