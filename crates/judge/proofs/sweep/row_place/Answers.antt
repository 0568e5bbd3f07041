use native.Mathlib.Omega.{arith}
use borrow.Author.Tests.{ne_eqb}
use Rattle.judging.specs.Rowwise.{place_row}
use Rattle.judging.proofs.Steps.{place_outside}
use Rattle.judge.proofs.sweep.row_place.Goals as goal
use Rattle.judge.specs.Frame.{KeepsLittle}
use Rattle.judge.proofs.sweep.row_place.Code.{function}

keeps_little : KeepsLittle function
keeps_little = record { small = tt; inside = tt }

pub returns-then-rows-k : goal.returns-then-rows-k
returns-then-rows-k c = place_outside c.args.rows.now _ _ _ (omega arith)

pub returns-in-2 : goal.returns-in-2
unfolding place_row
returns-in-2 c = rw (← c.kind.ensures, c.in-2.is)

pub returns-in-4 : goal.returns-in-4
unfolding place_row
returns-in-4 c = rw (← c.kind.ensures, c.in-4.is) c.seek.ensures

pub returns-in_default : goal.returns-in_default
unfolding place_row
returns-in_default c = rw (← c.kind.ensures, ne_eqb c.kind.result 2 (omega arith), ne_eqb c.kind.result 4 (omega arith))
