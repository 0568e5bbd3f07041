use native.Mathlib.Omega.{arith}
use Rattle.register.proofs.FreshLaws.{filled_part}
use Rattle.register.proofs.set_up.fill_at.Goals as goal

pub returns : goal.returns
returns c =
    let a = c.args in
    rw c.fill_row.ensures (filled_part a.table.now a.at a.n a.word (omega (arith, c.requires)))
