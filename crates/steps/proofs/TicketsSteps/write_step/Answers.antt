use mathlib.Core.Path.{sym, ◌∙◌}
use Rattle.protocol.specs.Rules.{ticket_rules}
use Rattle.steps.proofs.Laws.{may_write, write_in}
use Rattle.steps.proofs.TicketsSteps.write_step.Goals as goal

pub write_step-requires : goal.write_step-requires
write_step-requires c =
    let a = c.args in
    let k = may_write ticket_rules a.n a.w a.table.now (sym c.has_write.ensures ∙ c.if-has_write.true) in
    (k.0, write_in a.n a.w k.2 k.1)
