use Rattle.std.proofs.Common.{rules}
use Rattle.steps.proofs.Laws.{read_in}
use Rattle.steps.proofs.TicketsSteps.read_step.Goals as goal

pub read_step-requires : goal.read_step-requires
read_step-requires c = let a = c.args in (search rules, search (rules, read_in a.n a.p a.r))
