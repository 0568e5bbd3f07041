use Rattle.steps.proofs.CountingLaws.{write_goes, write_ends}
use Rattle.steps.proofs.counting.write_step.Goals as goal

pub returns-then-moved-n : goal.returns-then-moved-n
returns-then-moved-n c =
    let a = c.args in
    rw (c.store_word.ensures, c.from.ensures) (write_goes a.n a.w a.table.now c.if-moved-n.true)

pub returns : goal.returns
returns c =
    let a = c.args in
    rw (c.store_word.ensures, c.from.ensures) (write_ends a.n a.w a.table.now c.if-moved-n.false)
