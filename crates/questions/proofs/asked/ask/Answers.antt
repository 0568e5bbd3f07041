use Rattle.common.proofs.Range.{test_range}
use Rattle.questions.proofs.Laws.{processor_high}
use mathlib.Core.Path.{sym, ◌∙◌}
use native.Mathlib.Omega.{arith}
use Rattle.questions.proofs.asked.ask.Goals as goal

pub is_retired-requires : goal.is_retired-requires
is_retired-requires g c =
    let a = c.args in
    let k = test_range _ a.s _ _ (sym c.state_ok.ensures ∙ c.if-not-state_ok.false) in
    omega (arith, processor_high a.s a.least a.p (sym c.is_processor.ensures ∙ c.if-not-is_processor.false), k.head_good.n_high)
