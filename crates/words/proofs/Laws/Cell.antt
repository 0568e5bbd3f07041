-- Packing and unpacking a cell.
use Prim.Native.Nat.{ℕ, ◌+◌, ◌*◌, ◌/◌, ◌^◌, ◌<◌}
use mathlib.Core.Path.{◌≡◌, ap, ◌∙◌}
use native.Mathlib.Nat.{mod-mod}
use native.Mathlib.Omega.{arith}
use Rattle.words.specs.declared.cell.Cell.{Cell}
use Rattle.words.specs.declared.stamp.Stamp.{Stamp}
use Rattle.words.specs.Stamp.{none}
use Rattle.words.specs.Bits.{low, field}
use Rattle.words.specs.Cell.{pack_cell, unpack_cell, CellFits}
use Rattle.words.proofs.Laws.Bits.{split_field}

pub unpack_pack : (c : Cell) → CellFits c → unpack_cell (pack_cell c) ≡ c
unfolding pack_cell unpack_cell
unpack_pack c fits =
    let w : ℕ = pack_cell c in
    let v : field 32 32 w ≡ c.value = omega arith in
    let sc : field 26 6 w ≡ c.stamp.cur = omega arith in
    let sp : field 20 6 w ≡ c.stamp.prev = omega arith in
    let ac : field 14 6 w ≡ c.announced.cur = omega arith in
    let ap : field 8 6 w ≡ c.announced.prev = omega arith in
    simp (v, sc, sp, ac, ap)

-- a word by its fields and the bits above each
joined : (w w8 w14 w20 w26 w32 sc sp ac ap : ℕ) → w ≡ w8 * 2 ^ 8 + 0
    → w8 ≡ w14 * 2 ^ 6 + ap
    → w14 ≡ w20 * 2 ^ 6 + ac
    → w20 ≡ w26 * 2 ^ 6 + sp
    → w26 ≡ w32 * 2 ^ 6 + sc
    → w32 * 2 ^ 32 + sc * 2 ^ 26 + sp * 2 ^ 20 + ac * 2 ^ 14 + ap * 2 ^ 8 ≡ w
joined w w8 w14 w20 w26 w32 sc sp ac ap h0 h1 h2 h3 h4 = omega arith

-- where the zero bits are zero
pub pack_unpack : (w : ℕ) → w < 2 ^ 64 → low 8 w ≡ 0 → pack_cell (unpack_cell w) ≡ w
unfolding pack_cell unpack_cell
pack_unpack w h z =
    let top : field 32 32 w ≡ w / 2 ^ 32 = omega arith in
    let low : w ≡ w / 2 ^ 8 * 2 ^ 8 + 0 = omega arith in
    rw (mod-mod (w / 2 ^ 32), mod-mod (w / 2 ^ 26), mod-mod (w / 2 ^ 20), mod-mod (w / 2 ^ 14), mod-mod (w / 2 ^ 8), top)
    (joined w _ _ _ _ _ _ _ _ _ low (split_field 8 6 w) (split_field 14 6 w) (split_field 20 6 w) (split_field 26 6 w))

-- of a cell whose fields may not fit, the packed cur's low bits
pub packed_cur : (c : Cell) → (unpack_cell (pack_cell c)).stamp.cur ≡ low 6 c.stamp.cur
unfolding pack_cell unpack_cell
packed_cur c = omega arith

-- and what a value 0, and an announced none, are when they are unpacked
pub packed_zero : (c : Cell) → c.value ≡ 0 → (unpack_cell (pack_cell c)).value ≡ 0
unfolding pack_cell unpack_cell
packed_zero c e = omega arith

pub packed_none : (c : Cell) → c.announced ≡ none → (unpack_cell (pack_cell c)).announced ≡ none
unfolding pack_cell unpack_cell
packed_none c e =
    let w : ℕ = pack_cell c in
    let ac : field 14 6 w ≡ low 6 c.announced.cur = omega arith in
    let pr : field 8 6 w ≡ low 6 c.announced.prev = omega arith in
    λ i. record { cur = (ac ∙ ap (λ (s : Stamp). low 6 s.cur) e) i; prev = (pr ∙ ap (λ (s : Stamp). low 6 s.prev) e) i }
