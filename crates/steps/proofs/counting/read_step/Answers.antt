use Rattle.steps.proofs.CountingLaws.{to_other, from_other, read_looks, read_last, read_stores}
use Prim.Native.Nat.{◌-◌}
use native.Mathlib.Omega.{arith}
use Rattle.steps.proofs.counting.read_step.Goals as goal

pub word_from-word-requires : goal.word_from-word-requires
word_from-word-requires c =
    let a = c.args in
    let p = c.requires in
    rw c.other_reader-q.ensures (p.0, from_other a.n a.p a.r p.1 a.r.moved c.if-m-n.true)

pub returns-then-m-n : goal.returns-then-m-n
returns-then-m-n c =
    let a = c.args in
    rw (c.moves_on.ensures, c.larger_of.ensures, c.word_from-word.ensures, c.other_reader-q.ensures)
    (read_looks a.n a.p a.r a.table.now c.if-m-n.true)

pub returns-then-m-n-2 : goal.returns-then-m-n-2
returns-then-m-n-2 c =
    let a = c.args in
    rw (c.moves_on-then-m-n-2.ensures, c.larger_of-then-m-n-2.ensures, c.word_from-word-then-m-n-2.ensures)
    (read_last a.n a.p a.r a.table.now c.if-m-n.false c.if-m-n-2.true)

pub store_word-requires : goal.store_word-requires
store_word-requires c =
    let a = c.args in
    let p = c.requires in
    rw c.other_reader-q-2.ensures
    (p.0, to_other a.n a.p a.r p.1 (a.r.moved - a.n) (omega (arith, p.1.moved_low, c.if-m-n-2.false)))

pub returns : goal.returns
returns c =
    let a = c.args in
    rw (c.moves_on-2.ensures, c.store_word.ensures, c.from-2.ensures, c.from.ensures, c.other_reader-q-2.ensures)
    (read_stores a.n a.p a.r a.table.now c.if-m-n.false c.if-m-n-2.false)
