-- Question 4's tests of the writer and of a reader are their meaning.
use Prim.Native.Nat.{ℕ, ◌-◌, ◌*◌}
use mathlib.Core.Path.{◌≡◌, refl, sym, ◌∙◌}
use mathlib.Core.Bool.{Bool, true, ◌&&◌}
use lib.Dec.{ltb}
use borrow.Author.Tests.{ltb-true, lt-ltb}
use Rattle.words.proofs.Laws.Choice.{pick_ind, pick_yes, left, right, both}
use Rattle.common.specs.declared.Writer.{Writer}
use Rattle.common.specs.declared.Reader.{Reader}
use Rattle.counted.specs.State.{last_stamp, writer_ok, reader_ok}
use Rattle.counted.specs.InRange.{WriterInRange, ReaderInRange}

module _ (n : ℕ) (w : Writer) where
  abbrev opened : Bool
  opened = ltb w.moved n && ltb w.count last_stamp

  pub writer_in : writer_ok n w ≡ true → WriterInRange n w
  unfolding writer_ok
  writer_in e =
      let g : w.active ≡ true → opened ≡ true = λ a. sym (pick_yes w.active opened true a) ∙ e in
      record {
        moved_low = λ a. ltb-true _ _ (left (ltb w.moved n) _ (g a));
        count_low = λ a. ltb-true _ _ (right (ltb w.moved n) (ltb w.count last_stamp) (g a));
      }

  pub in_writer : WriterInRange n w → writer_ok n w ≡ true
  unfolding writer_ok
  in_writer k =
      pick_ind (λ b. b ≡ true) w.active _ _
      (λ a. both (ltb w.moved n) _ (lt-ltb _ _ (k.moved_low a)) (lt-ltb _ _ (k.count_low a))) (λ _. refl)

module _ (n : ℕ) (r : Reader) where
  pub reader_in : reader_ok n r ≡ true → ReaderInRange n r
  unfolding reader_ok
  reader_in e a = ltb-true _ _ (sym (pick_yes r.active (ltb r.moved (2 * n - 1)) true a) ∙ e)

  pub in_reader : ReaderInRange n r → reader_ok n r ≡ true
  unfolding reader_ok
  in_reader k = pick_ind (λ b. b ≡ true) r.active _ _ (λ a. lt-ltb _ _ (k a)) (λ _. refl)
