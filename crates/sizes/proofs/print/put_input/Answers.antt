use mathlib.Core.Path.{refl}
use Rattle.sizes.proofs.Texts.{not_read, is_read_lem}
use Rattle.sizes.proofs.print.put_input.Goals as goal

pub returns-in-Some : goal.returns-in-Some
returns-in-Some c = let numbers = c.in-Some.ensures in is_read_lem _ _ refl _ numbers.0 numbers.1 c.put_sizing.ensures

pub returns-in-None : goal.returns-in-None
returns-in-None c = not_read _ _ refl c.in-None.ensures c.put_bad.ensures
