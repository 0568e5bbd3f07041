use native.Mathlib.Omega.{arith}
use mathlib.Core.Path.{sym, ◌∙◌}
use Rattle.fields.proofs.OneLine.{line_good, line_places}
use Rattle.fields.proofs.read_line_array.Goals as goal

pub narrow-requires : goal.narrow-requires
narrow-requires g c =
    let read = c.read_one_line.ensures in
    let good = line_good _ c.args.room _ (omega arith) (sym read.good ∙ c.if-read_one_line.true) in
    (omega arith, (omega arith, (line_places _ _ _ good c.args.room _ (omega arith) read.numbers).1))

pub returns-then-read_one_line : goal.returns-then-read_one_line
returns-then-read_one_line g c =
    let read = c.read_one_line.ensures in
    let good = line_good _ c.args.room _ (omega arith) (sym read.good ∙ c.if-read_one_line.true) in
    (good, c.narrow.ensures ∙ (line_places _ _ _ good c.args.room _ (omega arith) read.numbers).0)
