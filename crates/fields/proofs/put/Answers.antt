use mathlib.Core.Path.{sym}
use lib.Seq.{set_out}
use Rattle.fields.proofs.put.Goals as goal

pub returns-else-k-numbers : goal.returns-else-k-numbers
returns-else-k-numbers c = sym (set_out _ _ _ c.if-k-numbers.false)
