use mathlib.Core.Path.{sym, ◌∙◌}
use Rattle.counted.specs.Rules.{counted_rules}
use Rattle.steps.proofs.Laws.{may_write, counted_write_in}
use Rattle.steps.proofs.CountingSteps.write_step.Goals as goal

pub write_step-requires : goal.write_step-requires
write_step-requires c =
    let a = c.args in
    let k = may_write counted_rules a.n a.w a.table.now (sym c.has_write.ensures ∙ c.if-has_write.true) in
    (k.0, counted_write_in a.n a.w k.2 k.0.n_high k.1)
