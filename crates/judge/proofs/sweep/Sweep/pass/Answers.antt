use native.Mathlib.Omega.{arith}
use borrow.Author.Tests.{le-leb, lt-leb}
use Rattle.judge.specs.Swept.{nothing_found, left_out, found_at, passed}
use Rattle.judge.proofs.Sweeping.{passed_is, processor_in, finds, swept_next}
use Rattle.judge.proofs.sweep.Sweep.pass.Goals as goal
use Rattle.judge.specs.Frame.{KeepsLittle}
use Rattle.judge.proofs.sweep.Sweep.pass.Code.{function}

keeps_little : KeepsLittle function
keeps_little = record { small = tt; inside = tt }

pub returns-then-rows-k-clause-finds : goal.returns-then-rows-k-clause-finds
unfolding nothing_found left_out found_at
returns-then-rows-k-clause-finds c = rw (le-leb _ _ c.if-rows-k.true)

pub returns-then-rows-k-clause-leaves : goal.returns-then-rows-k-clause-leaves
unfolding left_out passed
returns-then-rows-k-clause-leaves c = rw (le-leb _ _ c.if-rows-k.true)

pub returns-then-p-ge-PROCESSORS-clause-finds : goal.returns-then-p-ge-PROCESSORS-clause-finds
unfolding nothing_found left_out found_at
returns-then-p-ge-PROCESSORS-clause-finds c =
    rw (lt-leb _ _ c.if-rows-k.false, ← c.processor-p.ensures, le-leb _ _ c.if-p-ge-PROCESSORS.true)

pub returns-then-p-ge-PROCESSORS-clause-leaves : goal.returns-then-p-ge-PROCESSORS-clause-leaves
unfolding left_out passed
returns-then-p-ge-PROCESSORS-clause-leaves c =
    rw (lt-leb _ _ c.if-rows-k.false, ← c.processor-p.ensures, le-leb _ _ c.if-p-ge-PROCESSORS.true)

pub returns-clause-finds : goal.returns-clause-finds
unfolding left_out found_at
returns-clause-finds c =
    rw (lt-leb _ _ c.if-rows-k.false, ← c.processor-p.ensures, lt-leb _ _ c.if-p-ge-PROCESSORS.false, c.row_place-place.ensures)

pub returns-clause-leaves : goal.returns-clause-leaves
returns-clause-leaves c =
    passed_is _ _ _ c.if-rows-k.false c.processor-p.ensures c.if-p-ge-PROCESSORS.false c.row_place-place.ensures c.open_after.ensures c.floor_after.ensures
    (omega arith)

pub returns-then-p-ge-PROCESSORS-clause-found : goal.returns-then-p-ge-PROCESSORS-clause-found
returns-then-p-ge-PROCESSORS-clause-found c = λ w h S. absurd (omega (arith, processor_in _ w _ _ S h c.processor-p.ensures))

pub returns-then-p-ge-PROCESSORS-clause-next : goal.returns-then-p-ge-PROCESSORS-clause-next
returns-then-p-ge-PROCESSORS-clause-next c = λ w h S. absurd (omega (arith, processor_in _ w _ _ S h c.processor-p.ensures))

pub returns-clause-found : goal.returns-clause-found
returns-clause-found c = λ w h S. finds _ w _ _ S h c.processor-p.ensures c.row_place-place.ensures

pub returns-clause-next : goal.returns-clause-next
returns-clause-next c = λ w h S.
    swept_next _ w _ _ S h c.processor-p.ensures c.row_place-place.ensures c.open_after.ensures c.floor_after.ensures (omega arith)
