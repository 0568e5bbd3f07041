use mathlib.Core.Path.{sym, ◌∙◌}
use Rattle.fields.proofs.NumberLaws.{each_next, each_not, each_end}
use Rattle.fields.proofs.each_number.Goals as goal

pub returns-then-x-ge-NONE : goal.returns-then-x-ge-NONE
returns-then-x-ge-NONE c = sym (each_not _ _ c.loop-x-test.true c.if-x-ge-NONE.true) ∙ c.loop-x.invariant

pub loop-x-preserved : goal.loop-x-preserved
loop-x-preserved c = sym (each_next _ _ c.loop-x-test.true c.if-x-ge-NONE.false) ∙ c.loop-x.invariant

pub returns : goal.returns
returns c = sym (each_end _ _ c.loop-x-test.false) ∙ c.loop-x.invariant
