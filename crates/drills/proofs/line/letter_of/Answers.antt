use Rattle.std.proofs.Common.{arith}
use Rattle.std.proofs.lemmas.Bool.Decides.{nat_tests}
use Rattle.drills.specs.Words.{word_letter}
use Rattle.drills.proofs.line.letter_of.Goals as goal

pub returns-in-true-true : goal.returns-in-true-true
unfolding word_letter
returns-in-true-true c = grind (arith, nat_tests)

pub returns-in-true-false : goal.returns-in-true-false
unfolding word_letter
returns-in-true-false c = grind (arith, nat_tests)

pub returns-in-false-true : goal.returns-in-false-true
unfolding word_letter
returns-in-false-true c = grind (arith, nat_tests)

pub returns-in-false-false : goal.returns-in-false-false
unfolding word_letter
returns-in-false-false c = grind (arith, nat_tests)
