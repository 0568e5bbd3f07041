use native.Mathlib.Omega.{arith}
use Rattle.printing.proofs.SizingShort.{second_few, least_few}
use Rattle.sizes.proofs.Answers.{few_words, few_reads}
use Rattle.sizes.proofs.Drill.most_words.Goals as goal

pub overflow_add-result : goal.overflow_add-result
overflow_add-result c =
    let b = c.args.self in
    omega (
      arith,
      c.least_words-least.ensures,
      least_few b.counted b.n b.writes b.reads c.args.self.in_range.1 c.args.self.in_range.2 c.args.self.in_range.3,
      few_words c.second_words.ensures (second_few _ _ c.args.self.in_range.1) (few_reads _ c.args.self.in_range.3 c.min.ensures),
    )
