-- Packing and unpacking a row.
use Prim.Native.Nat.{ℕ, ◌+◌, ◌*◌, ◌/◌, ◌^◌, ◌<◌}
use mathlib.Core.Path.{◌≡◌}
use native.Mathlib.Nat.{mod-mod}
use native.Mathlib.Omega.{arith}
use Rattle.words.specs.declared.row.Row.{Row}
use Rattle.words.specs.Bits.{low, field}
use Rattle.words.specs.Row.{pack_row, unpack_row, zero_bits, RowFits}
use Rattle.words.proofs.Laws.Bits.{split_field}

pub unpack_pack : (r : Row) → RowFits r → unpack_row (pack_row r) ≡ r
unfolding pack_row
unpack_pack r fits =
    let w : ℕ = pack_row r in
    let k : field 60 4 w ≡ r.kind = omega arith in
    let p : field 52 8 w ≡ r.processor = omega arith in
    let v : low 32 w ≡ r.value = omega arith in
    simp (k, p, v)

-- a word by its fields and the bits above each
joined : (w w32 w52 w60 p v : ℕ) → w ≡ w32 * 2 ^ 32 + v → w32 ≡ w52 * 2 ^ 20 + 0 → w52 ≡ w60 * 2 ^ 8 + p
    → w60 * 2 ^ 60 + p * 2 ^ 52 + v ≡ w
joined w w32 w52 w60 p v h0 h1 h2 = omega arith

-- where the zero bits are zero
pub pack_unpack : (w : ℕ) → w < 2 ^ 64 → zero_bits w ≡ 0 → pack_row (unpack_row w) ≡ w
unfolding pack_row
pack_unpack w h z =
    let top : field 60 4 w ≡ w / 2 ^ 60 = omega arith in
    let low : w ≡ w / 2 ^ 32 * 2 ^ 32 + low 32 w = omega arith in
    rw (mod-mod (w / 2 ^ 60), mod-mod (w / 2 ^ 52), mod-mod w, top)
    (joined w _ _ _ _ _ low (rw z at (split_field 32 20 w)) (split_field 52 8 w))
