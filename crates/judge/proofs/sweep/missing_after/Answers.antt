use native.Mathlib.Omega.{arith}
use borrow.Author.Tests.{le-leb, lt-leb, eq-eqb, ne_eqb}
use Rattle.judging.specs.Rowwise.{missing_after}
use Rattle.judge.proofs.sweep.missing_after.Goals as goal
use Rattle.judge.proofs.sweep.missing_after.Goals.{else-kind-eq4-via-else-kind-eq4, else-kind-eq4-via-then-kind-eq4+else-k-q, else-kind-eq4-via-then-kind-eq4+then-k-q+else-b-m}
use Rattle.judge.specs.Frame.{KeepsLittle}
use Rattle.judge.proofs.sweep.missing_after.Code.{function}

keeps_little : KeepsLittle function
keeps_little = record { small = tt; inside = tt }

pub returns-then-b-m : goal.returns-then-b-m
unfolding missing_after
returns-then-b-m c = rw (← c.kind.ensures, eq-eqb _ _ c.if-kind-eq4.true, le-leb _ _ c.if-k-q.true) (omega arith)

pub returns-else-kind-eq4 : goal.returns-else-kind-eq4
unfolding missing_after
returns-else-kind-eq4 c =
    elim c.else-kind-eq4.branch [
      | else-kind-eq4-via-else-kind-eq4 w ↦ rw (← c.kind.ensures, ne_eqb _ _ w.if-kind-eq4.false)
      | else-kind-eq4-via-then-kind-eq4+else-k-q w ↦
          rw (← c.kind.ensures, eq-eqb _ _ w.if-kind-eq4.true, lt-leb _ _ w.if-k-q.false)
      | else-kind-eq4-via-then-kind-eq4+then-k-q+else-b-m w ↦
          rw (← c.kind.ensures, eq-eqb _ _ w.if-kind-eq4.true, le-leb _ _ w.if-k-q.true) (omega arith)
    ]
