use native.Mathlib.Omega.{arith}
use mathlib.Core.Path.{sym, ◌∙◌}
use Rattle.fields.proofs.NumberLaws.{array_good, good_places}
use Rattle.fields.proofs.read_array.Goals as goal

pub narrow-requires : goal.narrow-requires
narrow-requires g c =
    let read = c.read_numbers.ensures in
    let good = array_good c.args.room _ (omega arith) (sym read.good ∙ c.if-read_numbers.true) in
    (omega arith, (omega arith, (good_places _ _ good _ _ (omega arith) read.numbers).1))

pub returns-then-read_numbers : goal.returns-then-read_numbers
returns-then-read_numbers g c =
    let read = c.read_numbers.ensures in
    let good = array_good c.args.room _ (omega arith) (sym read.good ∙ c.if-read_numbers.true) in
    (good, c.narrow.ensures ∙ (good_places _ _ good _ _ (omega arith) read.numbers).0)
