-- An open operation in range has moved few words, in either register.
use Rattle.std.specs.Prelude.{ℕ, ◌≤◌, ◌<◌, ◌≡◌, Bool, true, false, refl}
use native.Mathlib.Omega.{arith}
use Rattle.common.specs.declared.Writer.{Writer}
use Rattle.common.specs.declared.Reader.{Reader}
use Rattle.protocol.specs.State.{writer_ok, reader_ok}
use Rattle.protocol.proofs.Range.{writer_in, reader_in}
use Rattle.counted.specs.State.{writer_ok as counted_writer_ok, reader_ok as counted_reader_ok}
use Rattle.counted.proofs.Range.{writer_in as counted_writer_in, reader_in as counted_reader_in}

-- a write of the first register
pub write_few : (n : ℕ) (w : Writer) → n ≤ 16 → w.active ≡ true → writer_ok n w ≡ true → w.moved < 32
write_few n w h a e = omega (arith, (writer_in n w e).moved_low a)

-- a write of the counted register
pub counted_write_few : (n : ℕ) (w : Writer) → n ≤ 16 → w.active ≡ true → counted_writer_ok n w ≡ true → w.moved < 32
counted_write_few n w h a e = omega (arith, (counted_writer_in n w e).moved_low a)

-- a read of the first register
pub read_few : (n p : ℕ) (r : Reader) → n ≤ 16 → 1 ≤ p → p ≤ n → r.active ≡ true → reader_ok n r ≡ true → r.moved < 64
read_few n p r h p1 pn a e = at r.second refl
  where
    at : (b : Bool) → r.second ≡ b → r.moved < 64
    at true q = omega (arith, ((reader_in n r e).in_second a q).1)
    at false q = omega (arith, (reader_in n r e).in_first a q)

-- a read of the counted register
pub counted_read_few : (n p : ℕ) (r : Reader) → n ≤ 16 → 1 ≤ p → p ≤ n → r.active ≡ true → counted_reader_ok n r ≡ true → r.moved < 64
counted_read_few n p r h p1 pn a e = omega (arith, counted_reader_in n r e a)
