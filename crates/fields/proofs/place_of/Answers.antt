use native.Mathlib.Omega.{arith}
use mathlib.Core.Path.{sym, ◌∙◌}
use Rattle.fields.proofs.FieldLaws.{place_here, place_next, place_past}
use Rattle.fields.proofs.place_of.Goals as goal

pub returns-then-bytes-i : goal.returns-then-bytes-i
returns-then-bytes-i c = sym (place_here _ _ _ (omega arith) c.if-bytes-i.true) ∙ c.loop-i.invariant

pub loop-i-preserved : goal.loop-i-preserved
loop-i-preserved c = sym (place_next _ _ _ (omega arith) c.if-bytes-i.false) ∙ c.loop-i.invariant

pub returns : goal.returns
returns c = c.max.ensures ∙ place_past _ _ _ c.loop-i.i (omega arith) (omega arith) (λ h. omega arith) c.loop-i.invariant
