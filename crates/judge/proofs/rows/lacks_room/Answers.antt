use native.Mathlib.Omega.{arith}
use borrow.Author.Tests.{le-ltb}
use mathlib.Core.Path.{sym, ◌∙◌}
use lib.ListN.{length}
use Rattle.judging.specs.Answer.{begins_to}
use Rattle.judging.proofs.Steps.{begins_few}
use Rattle.judge.proofs.rows.lacks_room.Goals as goal
use Rattle.judge.specs.Frame.{KeepsLittle}
use Rattle.judge.proofs.rows.lacks_room.Code.{function}

keeps_little : KeepsLittle function
keeps_little = record { small = tt; inside = tt }

pub returns-else-places-rows : goal.returns-else-places-rows
returns-else-places-rows c =
    let n = c.args.places in
    let r = c.args.rows.now in
    le-ltb n (length r) (omega arith) ∙ sym (le-ltb n (begins_to r (length r)) (omega (arith, begins_few r (length r))))
