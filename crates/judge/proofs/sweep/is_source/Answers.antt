use native.Mathlib.Omega.{arith}
use mathlib.Core.Path.{◌∙◌}
use Rattle.history.proofs.Source.{good_start, good_write, good_other}
use Rattle.judge.proofs.sweep.is_source.Goals as goal
use Rattle.judge.specs.Frame.{KeepsLittle}
use Rattle.judge.proofs.sweep.is_source.Code.{function}

keeps_little : KeepsLittle function
keeps_little = record { small = tt; inside = tt }

pub returns-then-q-eq0 : goal.returns-then-q-eq0
returns-then-q-eq0 c = c.suits_read.ensures ∙ good_start _ _ _ (omega arith)

pub returns-then-kind-eq1 : goal.returns-then-kind-eq1
returns-then-kind-eq1 c = c.suits_read-then-kind-eq1.ensures ∙ good_write _ _ _ (omega arith) (omega (arith, c.kind.ensures))

pub returns : goal.returns
returns c = good_other _ _ _ (omega arith) (omega (arith, c.kind.ensures))
