use borrow.Author.Tests.{eq-eqb, ne_eqb}
use mathlib.Core.Path.{sym, ◌∙◌}
use lib.Dec.{eqb→eq}
use Rattle.history.specs.WellFormed.{head_ok}
use Rattle.judge.proofs.formed.head_ok.Goals.{then-row-eq5, else-row-eq5}
use Rattle.judge.proofs.formed.head_ok.Goals as goal
use Rattle.judge.specs.Frame.{KeepsLittle}
use Rattle.judge.proofs.formed.head_ok.Code.{function}

keeps_little : KeepsLittle function
keeps_little = record { small = tt; inside = tt }

pub returns-then-row-eq0 : goal.returns-then-row-eq0
unfolding head_ok
returns-then-row-eq0 c =
    elim c.if-row-eq5.branch [
      | then-row-eq5 w ↦ rw (eq-eqb _ _ w.if-row-eq5.true, sym w.value-is ∙ c.if-row-eq0.true) c.is_reader.ensures
      | else-row-eq5 w ↦ absurd (w.if-row-eq5.false (eqb→eq _ _ (rw (sym w.value-is ∙ c.if-row-eq0.true) tt)))
    ]

pub returns-else-row-eq0 : goal.returns-else-row-eq0
unfolding head_ok
returns-else-row-eq0 c =
    elim c.if-row-eq5.branch [
      | then-row-eq5 w ↦ rw (c.if-row-eq0.false, eq-eqb _ _ w.if-row-eq5.true, sym w.value-is ∙ c.if-row-eq0.false)
      | else-row-eq5 w ↦ rw (c.if-row-eq0.false, ne_eqb _ _ w.if-row-eq5.false)
    ]
