use Rattle.steps.proofs.TicketLaws.{put_other, put_last}
use Rattle.words.proofs.Laws.Index.{other_valid}
use Rattle.steps.proofs.read.result_step.Goals as goal

pub store_word-requires : goal.store_word-requires
store_word-requires c =
    let a = c.args in
    let p = c.requires in
    let o = other_valid a.n a.p a.k p.1.p_low p.1.p_high c.if-k-n.true in
    rw c.other_reader-q.ensures (p.0, record { from = p.1.p_high; dest = o.1; apart = o.2 })

pub returns-then-k-n : goal.returns-then-k-n
returns-then-k-n c =
    let a = c.args in
    rw (c.count_word-next.ensures, c.store_word.ensures, c.from.ensures, c.shown.ensures, c.other_reader-q.ensures)
    (put_other a.n a.p a.k a.r a.table.now c.if-k-n.true)

pub returns : goal.returns
returns c =
    let a = c.args in
    rw (c.ends.ensures, c.store_word-2.ensures, c.from-2.ensures, c.plain_cell-c.ensures, c.stamp_in.ensures, c.count_word-next.ensures)
    (put_last a.n a.p a.k a.r a.table.now c.if-k-n.false)
