use native.Mathlib.Omega.{arith}
use borrow.Author.Tests.{eq-eqb, ne_eqb}
use mathlib.Core.Path.{sym, ◌∙◌}
use Rattle.history.specs.Rows.{kind_bits}
use Rattle.history.specs.WellFormed.{fields}
use Rattle.judge.proofs.formed.fields_ok.Goals as goal
use Rattle.judge.specs.Frame.{KeepsLittle}
use Rattle.judge.proofs.formed.fields_ok.Code.{function}

keeps_little : KeepsLittle function
keeps_little = record { small = tt; inside = tt }

pub returns-then-row-ne0 : goal.returns-then-row-ne0
unfolding fields
returns-then-row-ne0 c = rw (ne_eqb _ _ c.if-row-ne0.true)

pub returns-in-1 : goal.returns-in-1
unfolding fields
returns-in-1 c = rw (eq-eqb _ _ c.if-row-ne0.false, c.in-1.is)

pub returns-then-value-eq0 : goal.returns-then-value-eq0
unfolding fields
returns-then-value-eq0 c = rw (eq-eqb _ _ c.if-row-ne0.false, c.in-2.is, eq-eqb _ _ c.if-value-eq0.true)

pub returns-else-value-eq0 : goal.returns-else-value-eq0
unfolding fields
returns-else-value-eq0 c = rw (eq-eqb _ _ c.if-row-ne0.false, c.in-2.is, ne_eqb _ _ c.if-value-eq0.false)

pub returns-then-value-eq0-2 : goal.returns-then-value-eq0-2
unfolding fields
returns-then-value-eq0-2 c =
    rw (eq-eqb _ _ c.if-row-ne0.false, c.in-3.is, eq-eqb _ _ c.if-value-eq0-2.true) c.is_reader.ensures

pub returns-else-value-eq0-2 : goal.returns-else-value-eq0-2
unfolding fields
returns-else-value-eq0-2 c = rw (eq-eqb _ _ c.if-row-ne0.false, c.in-3.is, ne_eqb _ _ c.if-value-eq0-2.false)

pub returns-in-4 : goal.returns-in-4
unfolding fields
returns-in-4 c = rw (eq-eqb _ _ c.if-row-ne0.false, c.in-4.is) c.is_reader-in-4.ensures

pub returns-then-is_reader : goal.returns-then-is_reader
unfolding fields
returns-then-is_reader c = rw (eq-eqb _ _ c.if-row-ne0.false, c.in-6.is, sym c.is_reader-in-6.ensures ∙ c.if-is_reader.true)

pub returns-else-is_reader : goal.returns-else-is_reader
unfolding fields
returns-else-is_reader c =
    rw (eq-eqb _ _ c.if-row-ne0.false, c.in-6.is, c.if-is_reader.false, sym c.is_reader-in-6.ensures ∙ c.if-is_reader.false)

pub returns-in_default : goal.returns-in_default
unfolding fields
returns-in_default c =
    rw (
      eq-eqb _ _ c.if-row-ne0.false,
      ne_eqb (kind_bits c.args.row) 1 (omega arith),
      ne_eqb (kind_bits c.args.row) 2 (omega arith),
      ne_eqb (kind_bits c.args.row) 3 (omega arith),
      ne_eqb (kind_bits c.args.row) 4 (omega arith),
      ne_eqb (kind_bits c.args.row) 6 (omega arith),
    )
