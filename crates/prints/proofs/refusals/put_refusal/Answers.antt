use Rattle.prints.proofs.Texts.{not_refused, refused}
use Rattle.prints.proofs.refusals.put_refusal.Goals as goal

pub returns-then-number-ne0 : goal.returns-then-number-ne0
returns-then-number-ne0 c = refused _ c.if-number-ne0.true c.put_refused.ensures

pub returns-else-number-ne0 : goal.returns-else-number-ne0
returns-else-number-ne0 c = not_refused _ c.if-number-ne0.false
