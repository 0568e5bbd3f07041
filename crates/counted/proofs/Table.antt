-- The counted register's table: its words, its places, and the fresh table.
use Prim.Native.Nat.{ℕ, zero, suc, ◌+◌, ◌-◌, ◌*◌, ◌/◌, ◌%◌, ◌^◌, ◌≤◌, ◌<◌}
use mathlib.Core.Path.{◌≡◌, refl, sym, ap, ◌∙◌}
use mathlib.Core.Logic.{◌⊎◌, inl, inr}
use native.Mathlib.Nat.{mul-le-mul_left, mul-le-mul_right, mul-suc, suc-mul, div-add-mod', div-lt_iff_lt-mul, mod-lt}
use native.Mathlib.Decide.{dec_lt}
use native.Mathlib.Omega.{arith}
use lib.ListN.{length}
use lib.Dec.{ltb, eqb}
use borrow.Author.Tests.{ne_eqb}
use Rattle.words.specs.Bits.{low, field}
use Rattle.words.specs.Choice.{pick}
use Rattle.words.proofs.Laws.Choice.{lt_ind, eq_ind}
use Rattle.common.proofs.Buffers.{two_ind, two_length}
use Rattle.common.proofs.Places.{Places}
use Rattle.counted.specs.declared.Cell.{Cell}
use Rattle.counted.specs.Cell.{pack_cell, unpack_cell, CellFits}
use Rattle.counted.specs.Table.{row_start, in_row, index, Link, view}
use Rattle.counted.specs.Reference.{fresh_table}

pub unpack_pack : (c : Cell) → CellFits c → unpack_cell (pack_cell c) ≡ c
unfolding pack_cell unpack_cell
unpack_pack c fits =
    let w : ℕ = pack_cell c in
    let v : field 32 32 w ≡ c.value = omega arith in
    let s : low 32 w ≡ c.stamp = omega arith in
    simp (v, s)

-- The row of a reader has n - 1 cells, that of the writer n.
square : (n : ℕ) → n * (n - 1) + n ≡ n * n
square zero = refl
square (suc d) = let e : suc d - 1 ≡ d = omega arith in rw (e, mul-suc)

square_low : (n : ℕ) → 1 ≤ n → n ≤ n * n
square_low n h = omega (arith, mul-le-mul_left n h)

pub writer_place : (n j : ℕ) → index n 0 j ≡ j - 1
unfolding row_start in_row
writer_place n j = omega arith

module _ (n i : ℕ) (pos : 1 ≤ i) where
  start_is : row_start n i ≡ n + (i - 1) * (n - 1)
  unfolding row_start
  start_is = eq_ind (λ k. k ≡ n + (i - 1) * (n - 1)) i 0 _ _ (λ e. absurd (omega arith)) (λ _. refl)

  -- the place in a reader's row, by whether the reader that it is to is below
  in_row_ind : (j : ℕ) (Q : ℕ → Type 0) → (j < i → Q (j - 1)) → (i ≤ j → Q (j - 2)) → Q (in_row i j)
  unfolding in_row
  in_row_ind j Q f g = eq_ind Q i 0 _ _ (λ e. absurd (omega arith)) (λ _. lt_ind Q j i _ _ f g)

  in_row_low : (j : ℕ) → Link n i j → in_row i j < n - 1
  in_row_low j v = in_row_ind j (λ k. k < n - 1) (λ h. omega (arith, v.from, v.dest_low)) (λ h. omega (arith, v.dest, v.apart))

  in_row_rises : (j l : ℕ) → Link n i j → Link n i l → j < l → in_row i j < in_row i l
  in_row_rises j l v w h =
      in_row_ind j (λ a. a < in_row i l)
      (λ f. in_row_ind l (λ b. j - 1 < b) (λ g. omega (arith, v.dest_low)) (λ g. omega (arith, v.dest_low, w.apart)))
      (λ f. in_row_ind l (λ b. j - 2 < b) (λ g. absurd (omega arith)) (λ g. omega (arith, v.apart)))

-- A reader's place lies in its row, behind the writer's.
module _ (n i j : ℕ) (pos : 1 ≤ i) (v : Link n i j) where
  pub reader_place : n ≤ index n i j
  reader_place = omega (arith, start_is n i pos)

  index_row : index n i j ≡ n + (i - 1) * (n - 1) + in_row i j
  index_row = omega (arith, start_is n i pos)

  reader_low : index n i j < n * n
  reader_low =
      let s : suc (i - 1) ≤ n = omega (arith, v.from) in
      omega (arith, index_row, in_row_low n i pos j v, mul-le-mul_right (n - 1) s, square n, suc-mul (i - 1) (n - 1))

-- "n² cells": each cell's place is one of them,
pub index_low : (n i j : ℕ) → Link n i j → index n i j < n * n
index_low n i j v = elim (dec_lt 0 i) [
  | yes h ↦ reader_low n i j h v
  | no h ↦ let e : i ≡ 0 = omega arith in rw (e, writer_place n j) (omega (arith, v.dest_low, v.dest, square_low n (omega (arith, v.dest_low, v.dest))))
]

-- "rows, and all stores, go by rising reader": the places rise with the processor from whom and, in its row, the reader to whom;
rows_rise : (n i k a b : ℕ) → 1 ≤ i → i < k → a < n - 1 → n + (i - 1) * (n - 1) + a < n + (k - 1) * (n - 1) + b
rows_rise n i k a b h l c =
    let s : suc (i - 1) ≤ k - 1 = omega arith in
    omega (arith, mul-le-mul_right (n - 1) s, suc-mul (i - 1) (n - 1))

pub index_rises : (n i j k l : ℕ) → Link n i j → Link n k l → (i < k) ⊎ ((i ≡ k) × (j < l)) → index n i j < index n k l
index_rises n i j k l v w = go (dec_lt 0 i)
  where
    writer_is : (p q : ℕ) → p ≡ 0 → index n p q ≡ q - 1
    writer_is p q z = rw (z, writer_place n q)

    go : Dec (0 < i) → (i < k) ⊎ ((i ≡ k) × (j < l)) → index n i j < index n k l
    go (yes hi) (inl h) =
        omega (arith, rows_rise n i k (in_row i j) (in_row k l) hi h (in_row_low n i hi j v), index_row n i j hi v, index_row n k l (omega arith) w)
    go (yes hi) (inr (e, h)) = let w' : Link n i l = rw (← e) at w in rw (← e) (omega (arith, in_row_rises n i hi j l v w' h))
    go (no hi) (inl h) = omega (arith, writer_is i j (omega arith), reader_place n k l (omega arith) w, v.dest, v.dest_low)
    go (no hi) (inr (e, h)) = omega (arith, writer_is i j (omega arith), writer_is k l (omega arith), v.dest_low)

-- so no two are the same.
pub index_inj : (n i j k l : ℕ) → Link n i j → Link n k l → index n i j ≡ index n k l → (i ≡ k) × (j ≡ l)
index_inj n i j k l v w e = rows (dec_lt i k) (dec_lt k i)
  where
    in_row_lem : i ≡ k → Dec (j < l) → Dec (l < j) → (i ≡ k) × (j ≡ l)
    in_row_lem q (yes h) d = absurd (omega (arith, index_rises n i j k l v w (inr (q, h))))
    in_row_lem q (no h) (yes g) = absurd (omega (arith, index_rises n k l i j w v (inr (sym q, g))))
    in_row_lem q (no h) (no g) = (q, omega arith)

    rows : Dec (i < k) → Dec (k < i) → (i ≡ k) × (j ≡ l)
    rows (yes h) d = absurd (omega (arith, index_rises n i j k l v w (inl h)))
    rows (no h) (yes g) = absurd (omega (arith, index_rises n k l i j w v (inl g)))
    rows (no h) (no g) = in_row_lem (omega arith) (dec_lt j l) (dec_lt l j)

-- Each of the n² is some cell's. dest: the reader to whom cell a of the row of reader i is
dest : ℕ → ℕ → ℕ
dest i a = pick (ltb (a + 1) i) (a + 1) (a + 2)

dest_link : (n i a : ℕ) → 1 ≤ i → i ≤ n → a < n - 1 → Link n i (dest i a) × (in_row i (dest i a) ≡ a)
unfolding dest
dest_link n i a h hn l =
    lt_ind (λ j. Link n i j × (in_row i j ≡ a)) (a + 1) i _ _
    (λ g. (omega arith, in_row_ind n i h (a + 1) (λ k. k ≡ a) (λ _. omega arith) (λ f. absurd (omega arith))))
    (λ g. (omega arith, in_row_ind n i h (a + 2) (λ k. k ≡ a) (λ f. absurd (omega arith)) (λ _. omega arith)))

pub index_onto : (n x : ℕ) → x < n * n → (i : ℕ) × (j : ℕ) × Link n i j × (index n i j ≡ x)
index_onto n x h = elim (dec_lt x n) [
  | yes l ↦ (0, x + 1, omega arith, writer_place n (x + 1) ∙ omega arith)
  | no l ↦ reader (dec_lt 1 n) (omega arith)
]
  where
    reader : Dec (1 < n) → n ≤ x → (i : ℕ) × (j : ℕ) × Link n i j × (index n i j ≡ x)
    reader (no g) l = absurd (omega (arith, small n (omega arith)))
      where
        small : (k : ℕ) → k ≤ 1 → k * k ≤ k
        small zero q = omega arith
        small (suc zero) q = omega arith
        small (suc (suc k)) q = absurd (omega arith)
    reader (yes g) l =
        let d : ℕ = n - 1 in
        let i : ℕ = (x - n) / d in
        let a : ℕ = (x - n) % d in
        let pos : 0 < d = omega arith in
        let hi : i < n = (div-lt_iff_lt-mul pos).1 (omega (arith, square n)) in
        let e = dest_link n (i + 1) a (omega arith) (omega arith) (mod-lt (x - n) pos) in
        let m : i * d + a ≡ x - n = div-add-mod' (x - n) d in
        let q : (i + 1 - 1) * d ≡ i * d = ap (λ (k : ℕ). k * d) (omega arith) in
        (i + 1, dest (i + 1) a, e.0, omega (arith, index_row n (i + 1) (dest (i + 1) a) (omega arith) e.0, e.1))

abbrev pub places : ℕ → Places Cell
places n = record {
  cells = n * n;
  Has = Link n;
  place = index n;
  place_low = index_low n;
  place_inj = index_inj n;
  pack = pack_cell;
  unpack = unpack_cell;
  Fits = CellFits;
  unpack_pack = unpack_pack;
}

-- The fresh table.
module _ (n v fresh : ℕ) where
  abbrev w₀ : Cell
  w₀ = record { value = v; stamp = fresh }

  abbrev r₀ : Cell
  r₀ = record { value = 0; stamp = fresh }

  pub fresh_length : 1 ≤ n → length (fresh_table n v fresh) ≡ n * n
  unfolding fresh_table
  fresh_length pos = two_length n (n * n - n) _ _ ∙ omega (arith, square_low n pos)

  pub fresh_writer_lem : (j : ℕ) → Link n 0 j → CellFits w₀ → view n (fresh_table n v fresh) 0 j ≡ w₀
  unfolding fresh_table
  fresh_writer_lem j l f =
      rw (writer_place n j)
      (two_ind n (n * n - n) (j - 1) (pack_cell w₀) (pack_cell r₀) (λ x. unpack_cell x ≡ w₀) (omega (arith, l.dest, l.dest_low))
      (λ _. unpack_pack w₀ f) (λ h. absurd (omega (arith, l.dest, l.dest_low))))

  pub fresh_reader_lem : (i j : ℕ) → 1 ≤ i → Link n i j → CellFits r₀ → view n (fresh_table n v fresh) i j ≡ r₀
  unfolding fresh_table
  fresh_reader_lem i j pos l f =
      two_ind n (n * n - n) (index n i j) (pack_cell w₀) (pack_cell r₀) (λ x. unpack_cell x ≡ r₀) (omega (arith, index_low n i j l, reader_place n i j pos l))
      (λ h. absurd (omega (arith, reader_place n i j pos l))) (λ _. unpack_pack r₀ f)

  -- "stands in every cell, with the start reading in the writer's cells and 0 elsewhere"
  pub fresh_cell : v < 2 ^ 32 → fresh < 2 ^ 32 → (i j : ℕ) → Link n i j
      → view n (fresh_table n v fresh) i j ≡ record { value = pick (eqb i 0) v 0; stamp = fresh }
  fresh_cell low fresh-low zero j l = fresh_writer_lem j l (omega arith)
  fresh_cell low fresh-low (suc i) j l = rw (ne_eqb (suc i) 0 (omega arith)) (fresh_reader_lem (suc i) j (omega arith) l (omega arith))
