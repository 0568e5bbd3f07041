use Rattle.prints.specs.Said.{said_line}
use Rattle.prints.proofs.verdict.put_said.Goals as goal

pub slice_bounds-put_order-end : goal.slice_bounds-put_order-end
slice_bounds-put_order-end c = (rw c.in-Ok.is at c.requires).1

pub returns-in-Ok : goal.returns-in-Ok
unfolding said_line
returns-in-Ok c = rw c.in-Ok.is c.put_order.ensures

pub returns-in-Err : goal.returns-in-Err
unfolding said_line
returns-in-Err c = rw c.in-Err.is c.put_refusal.ensures
