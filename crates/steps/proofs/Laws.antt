-- An open operation in range: what its test says, what the rules of each kind ask of it, and the sub-step that it then takes.
use Prim.Native.Nat.{ℕ, ◌+◌, ◌*◌, ◌≤◌}
use mathlib.Core.Path.{◌≡◌, refl}
use mathlib.Core.Bool.{Bool, true, false, ◌&&◌}
use mathlib.Core.List.{List}
use native.Mathlib.Omega.{arith}
use lib.Dec.{leb}
use lib.ListN.{length}
use borrow.Author.Tests.{leb-true, le-leb}
use Rattle.words.proofs.Laws.Choice.{pick_yes, left, right, both}
use Rattle.common.specs.declared.Writer.{Writer}
use Rattle.common.specs.declared.Reader.{Reader}
use Rattle.common.specs.Rules.{Rules}
use Rattle.protocol.specs.State.{writer_ok, reader_ok}
use Rattle.protocol.proofs.Range.{writer_in, reader_in}
use Rattle.counted.specs.State.{writer_ok as counted_writer_ok, reader_ok as counted_reader_ok}
use Rattle.counted.proofs.Range.{writer_in as counted_writer_in, reader_in as counted_reader_in}
use Rattle.steps.specs.Step.{serves, writes, write_step_of, read_step_of}
use Rattle.steps.specs.Contract.{TableOk, WriteOk, ReadOk, CountedWriteOk, CountedReadOk}

-- What the test of an open write says: the table serves n readers, and the write is open and in range.
pub may_write : (R : Rules) (n : ℕ) (w : Writer) (t : List ℕ) → (serves R n (length t) && writes R n w) ≡ true
    → TableOk R n (length t) × (R.writer_ok n w ≡ true) × (w.active ≡ true)
may_write R n w t e =
    let table = left (serves R n (length t)) _ e in
    let more = right (leb 1 n) _ table in
    let on = right (serves R n (length t)) _ e in (
      record {
        n_low = leb-true 1 n (left (leb 1 n) _ table);
        n_high = leb-true n 16 (left (leb n 16) _ more);
        cells_are = leb-true (R.cells n) (length t) (right (leb n 16) _ more);
      },
      left (R.writer_ok n w) _ on,
      right (R.writer_ok n w) _ on,
    )

-- A table that is enough for n readers serves them.
serves_it : (R : Rules) (n cells : ℕ) → TableOk R n cells → serves R n cells ≡ true
serves_it R n cells k = both _ _ (le-leb 1 n k.n_low) (both _ _ (le-leb n 16 k.n_high) (le-leb (R.cells n) cells k.cells_are))

-- The sub-step of an open write in range is the rules' (by `simp`, which asks no more than the test says), and so is that of an open read.
pub write_steps_lem : (R : Rules) (n : ℕ) (w : Writer) (t : List ℕ) → TableOk R n (length t) → R.writer_ok n w ≡ true → w.active ≡ true
    → write_step_of R n w t ≡ R.write_step n w t
unfolding write_step_of
write_steps_lem R n w t k ok a = pick_yes _ _ _ (both _ _ (serves_it R n (length t) k) (simp (ok, a)))

pub read_steps_lem : (R : Rules) (n p : ℕ) (r : Reader) (t : List ℕ) → TableOk R n (length t) → 1 ≤ p → p ≤ n → R.reader_ok n r ≡ true
    → r.active ≡ true → read_step_of R n p r t ≡ R.read_step n p r t
unfolding read_step_of
read_steps_lem R n p r t k p1 pn ok a =
    pick_yes _ _ _ (both _ _ (serves_it R n (length t) k) (both _ _ (both _ _ (le-leb 1 p p1) (le-leb p n pn)) (both _ _ ok a)))

-- An open write in range, by its kind.
module _ (n : ℕ) (w : Writer) (a : w.active ≡ true) where
  pub write_in : writer_ok n w ≡ true → WriteOk n w
  write_in e = let k = writer_in n w e in record { moved_low = k.moved_low a; few = k.few a }

  module _ (h : n ≤ 16) where
    pub counted_write_in : counted_writer_ok n w ≡ true → CountedWriteOk n w
    counted_write_in e = let k = counted_writer_in n w e in record { n_high = h; moved_low = k.moved_low a; count_low = k.count_low a }

-- An open read in range, by its kind.
module _ (n p : ℕ) (r : Reader) (p1 : 1 ≤ p) (pn : p ≤ n) (a : r.active ≡ true) where
  pub read_in : reader_ok n r ≡ true → ReadOk n p r
  read_in e =
      let k = reader_in n r e in
      record { p_low = p1; p_high = pn; moved_low = at r.second refl; in_first = k.in_first a; in_second = k.in_second a }
    where
      at : (b : Bool) → r.second ≡ b → r.moved ≤ 3 * n + 5
      at true q = ((reader_in n r e).in_second a q).1
      at false q = omega (arith, (reader_in n r e).in_first a q)

  module _ (h : n ≤ 16) where
    pub counted_read_in : counted_reader_ok n r ≡ true → CountedReadOk n p r
    counted_read_in e = record { p_low = p1; p_high = pn; n_high = h; moved_low = counted_reader_in n r e a }
