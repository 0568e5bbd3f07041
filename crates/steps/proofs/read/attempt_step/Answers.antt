use Rattle.steps.proofs.TicketLaws.{try_first, try_announce, try_again, try_other, try_third}
use Rattle.words.proofs.Laws.Index.{other_valid}
use Prim.Native.Nat.{◌-◌}
use mathlib.Core.Path.{sym}
use native.Mathlib.Omega.{arith}
use Rattle.steps.proofs.read.attempt_step.Goals as goal

pub returns-in-0 : goal.returns-in-0
returns-in-0 c =
    let a = c.args in
    rw (c.looks_first.ensures, c.word_from.ensures, c.count_word-next.ensures)
    (try_first a.n a.p a.l a.r a.table.now c.in-0.is)

pub returns-in-1 : goal.returns-in-1
returns-in-1 c =
    let a = c.args in
    rw (c.count_word-next.ensures, c.store_word.ensures, c.from.ensures, c.announcement-c.ensures)
    (try_announce a.n a.p a.l a.r a.table.now (λ e. omega (arith, e, c.in-1.is)) c.in-1.is)

pub returns-in-2 : goal.returns-in-2
returns-in-2 c =
    let a = c.args in
    rw (c.looks_again.ensures, c.word_from-in-2.ensures, c.count_word-next.ensures)
    (try_again a.n a.p a.l a.r a.table.now (λ e. omega (arith, e, c.in-2.is)) (λ e. omega (arith, e, c.in-2.is)) c.in-2.is)

pub word_from-requires-in_default : goal.word_from-requires-in_default
word_from-requires-in_default c =
    let a = c.args in
    let p = c.requires in
    let o = other_valid a.n a.p (a.l - 3) p.1.p_low p.1.p_high (omega arith) in
    rw c.other_reader-q.ensures (p.0, record { from = o.1; dest = p.1.p_high; apart = λ e. o.2 (sym e) })

pub returns-in_default : goal.returns-in_default
returns-in_default c =
    let a = c.args in
    rw (c.looks_at_other.ensures, c.word_from-in_default.ensures, c.other_reader-q.ensures, c.count_word-next.ensures)
    (try_other a.n a.p a.l a.r a.table.now (λ e. omega arith) (λ e. omega arith) (λ e. omega arith) c.if-l-n.true)

pub returns-in_default-2 : goal.returns-in_default-2
returns-in_default-2 c =
    let a = c.args in
    rw (c.looks_third.ensures, c.word_from-in_default-2.ensures, c.count_word-next.ensures)
    (try_third a.n a.p a.l a.r a.table.now (λ e. omega arith) (λ e. omega arith) (λ e. omega arith) c.if-l-n.false)
