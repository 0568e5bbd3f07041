use Rattle.steps.proofs.TicketLaws.{write_reads, write_stores}
use Rattle.steps.proofs.write.write_step.Goals as goal

pub returns-then-w-n : goal.returns-then-w-n
returns-then-w-n c =
    let a = c.args in
    rw c.reads_cell.ensures (write_reads a.n a.w a.table.now c.if-w-n.true)

pub returns : goal.returns
returns c =
    let a = c.args in
    rw (c.stored.ensures, c.store_word.ensures, c.from.ensures, c.no_stamp.ensures, c.ticket_of-ticket.ensures)
    (write_stores a.n a.w a.table.now c.if-w-n.false)
