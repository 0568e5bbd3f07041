use native.Mathlib.Omega.{arith}
use Rattle.std.proofs.lemmas.Bool.Decides.{nat_tests}
use mathlib.Core.Path.{◌∙◌}
use Rattle.fields.proofs.NumberLaws.{other_count, same_count}
use Rattle.fields.proofs.read_numbers.Goals as goal

pub returns-then-numbers-last-clause-good : goal.returns-then-numbers-last-clause-good
returns-then-numbers-last-clause-good c =
    let put = c.put_numbers-last.ensures in c.each_number.ensures ∙ same_count _ _ _ _ put.count put.numbers (grind (arith, nat_tests))

pub returns-clause-good : goal.returns-clause-good
returns-clause-good c = let put = c.put_numbers-last.ensures in other_count _ _ _ _ put.count put.numbers (λ e. grind (arith, nat_tests))
