use Rattle.prints.specs.Said.{refusal_line}
use Rattle.prints.proofs.Verdicts.{numbered_line}
use Rattle.prints.proofs.verdict.put_refusal.Goals as goal

pub returns-in-NoOrder : goal.returns-in-NoOrder
unfolding refusal_line
returns-in-NoOrder c = rw c.in-NoOrder.is c.put_no_order.ensures

pub returns-in_default : goal.returns-in_default
returns-in_default c =
    rw (numbered_line c.args.fault c.in_default.not-NoOrder, ← c.number.ensures) c.put_refused.ensures
