-- A sub-step keeps its processor in range.
use Prim.Native.Nat.{ℕ, ◌+◌, ◌-◌, ◌*◌, ◌<◌}
use mathlib.Core.Path.{◌≡◌}
use mathlib.Core.List.{List}
use mathlib.Core.Bool.{true}
use native.Mathlib.Omega.{arith}
use lib.Dec.{ltb}
use borrow.Author.Tests.{ltb-true}
use Rattle.words.proofs.Laws.Choice.{lt_ind, pick_yes}
use Rattle.common.specs.declared.Writer.{Writer}
use Rattle.common.specs.declared.Reader.{Reader}
use Rattle.common.specs.Rules.{ReadStep}
use Rattle.counted.specs.InRange.{WriterInRange, ReaderInRange}
use Rattle.counted.specs.Steps.{write_steps, read_steps, write_step, read_step}

pub turn_w : (n : ℕ) (w : Writer) (t : List ℕ) → WriterInRange n w → w.active ≡ true → WriterInRange n (write_step n w t).writer
unfolding write_step
turn_w n w t k a = record {
  moved_low = λ e. omega (arith, ltb-true (w.moved + 1) (write_steps n) e);
  count_low = λ e. rw (pick_yes (ltb (w.moved + 1) (write_steps n)) w.count (w.count + 1) e) (k.count_low a);
}

-- a read that goes on has not made its last sub-step
on_low : (n m : ℕ) → ltb (m + 1) (read_steps n) ≡ true → m + 1 < 2 * n - 1
on_low n m e = omega (arith, ltb-true (m + 1) (read_steps n) e)

pub turn_r : (n p : ℕ) (r : Reader) (t : List ℕ) → ReaderInRange n (read_step n p r t).reader
unfolding read_step
turn_r n p r t =
    let Q : ReadStep → Type 0 = λ q. ReaderInRange n q.reader in
    lt_ind Q (r.moved + 1) n _ _ (λ _. on_low n r.moved) (λ _. lt_ind Q r.moved n _ _ (λ _. on_low n r.moved) (λ _. on_low n r.moved))
