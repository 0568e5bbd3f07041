use native.Mathlib.Omega.{arith}
use Rattle.std.proofs.lemmas.Grind.{common_steps}
use Rattle.figures.specs.Sizing.{size_of}
use Rattle.sizes.proofs.Answers.{as_meant}
use Rattle.sizes.proofs.size_of.Goals as goal

pub returns-then-rows-gt4096-clause-answer : goal.returns-then-rows-gt4096-clause-answer
unfolding size_of
returns-then-rows-gt4096-clause-answer c = grind (arith, common_steps)

pub returns-then-rows-gt4096-clause-meaning : goal.returns-then-rows-gt4096-clause-meaning
returns-then-rows-gt4096-clause-meaning c = as_meant _ _ _ _ (returns-then-rows-gt4096-clause-answer c)

pub returns-clause-answer : goal.returns-clause-answer
unfolding size_of
returns-clause-answer c = grind (arith, common_steps)

pub returns-clause-meaning : goal.returns-clause-meaning
returns-clause-meaning c = as_meant _ _ _ _ (returns-clause-answer c)
