use native.Mathlib.Omega.{arith}
use borrow.Author.Tests.{eq-eqb, ne_eqb}
use mathlib.Core.Path.{sym, ◌∙◌}
use Rattle.sheets.proofs.add.lag_of.Goals as goal
use Rattle.sheets.specs.Frame.{KeepsLittle}
use Rattle.sheets.proofs.add.lag_of.Code.{function}

keeps_little : KeepsLittle function
keeps_little = record { small = tt; inside = tt }

pub overflow_sub-result : goal.overflow_sub-result
overflow_sub-result c = omega (arith, c.requires (sym c.kind.ensures ∙ c.if-kind-eq4.true))

pub returns-then-kind-eq4 : goal.returns-then-kind-eq4
returns-then-kind-eq4 c = rw (← c.kind.ensures, eq-eqb _ _ c.if-kind-eq4.true)

pub returns-else-kind-eq4 : goal.returns-else-kind-eq4
returns-else-kind-eq4 c = rw (← c.kind.ensures, ne_eqb _ _ c.if-kind-eq4.false)
