use Rattle.std.proofs.Common.{arith}
use Rattle.std.proofs.lemmas.Bool.Decides.{nat_tests}
use Rattle.lines.specs.Lines.{letter_of}
use Rattle.lines.proofs.letter_of.Goals as goal

pub returns-in-1 : goal.returns-in-1
unfolding letter_of
returns-in-1 c = grind (arith, nat_tests)

pub returns-in-2 : goal.returns-in-2
unfolding letter_of
returns-in-2 c = grind (arith, nat_tests)

pub returns-in-3 : goal.returns-in-3
unfolding letter_of
returns-in-3 c = grind (arith, nat_tests)

pub returns-in_default : goal.returns-in_default
unfolding letter_of
returns-in_default c = grind (arith, nat_tests)
