-- The places of the table: what stands where, and that each place is one cell's.
use Prim.Native.Nat.{ℕ, ◌+◌, ◌-◌, ◌*◌, ◌/◌, ◌%◌, ◌^◌, ◌≤◌, ◌<◌}
use mathlib.Core.Path.{◌≡◌, ap, sym, ◌∙◌}
use mathlib.Core.Logic.{◌≢◌}
use native.Mathlib.Nat.{mul-le-mul_left, mul_comm, mul-add, div-add-mod, div-lt_iff_lt-mul, mod-lt}
use native.Mathlib.Decide.{dec_lt}
use native.Mathlib.Omega.{arith}
use Rattle.words.specs.Index.{row_start, in_row, index, Pair, other}
use lib.Dec.{ltb}
use Rattle.words.specs.Choice.{pick}
use Rattle.words.proofs.Laws.Choice.{lt_ind}

-- "The writer's row: to readers 1..n."
pub writer_row : (n j : ℕ) → 1 ≤ j → index n 0 j ≡ j - 1
unfolding index in_row
writer_row n j h = lt_ind (λ k. row_start n 0 + k ≡ j - 1) j 0 _ _ (λ g. omega arith) (λ g. omega arith)

-- "Reader i's row: first to the writer,"
pub writer_first : (n i : ℕ) → 1 ≤ i → index n i 0 ≡ row_start n i
unfolding index in_row
writer_first n i h = lt_ind (λ k. row_start n i + k ≡ row_start n i) 0 i _ _ (λ g. omega arith) (λ g. omega arith)

-- "then to the other readers in rising order"
pub others_rise : (n i j k : ℕ) → Pair n i j → Pair n i k → j < k → index n i j < index n i k
unfolding index in_row
others_rise n i j k p q h =
    lt_ind (λ a. n * i + a < n * i + in_row i k) j i _ _
    (λ g. lt_ind (λ b. n * i + j < n * i + b) k i _ _ (λ f. omega arith) (λ f. omega (arith, q.apart)))
    (λ g. lt_ind (λ b. n * i + (j - 1) < n * i + b) k i _ _ (λ f. omega arith) (λ f. omega (arith, p.apart)))

-- the row of i "has n cells"
pub in_row_lem : (n i j : ℕ) → Pair n i j → in_row i j < n
unfolding in_row
in_row_lem n i j p = lt_ind (λ k. k < n) j i _ _ (λ h. omega (arith, p.from)) (λ h. omega (arith, p.dest, p.apart))

-- "The table has n²+n cells": each cell's place is one of them,
pub index_low : (n i j : ℕ) → Pair n i j → index n i j < n * n + n
unfolding index
index_low n i j p = omega (arith, in_row_lem n i j p, mul-le-mul_left n p.from)

-- two cells' places differ,
in_row_inj : (i j l : ℕ) → j ≢ i → l ≢ i → in_row i j ≡ in_row i l → j ≡ l
unfolding in_row
in_row_inj i j l hj hl =
    lt_ind (λ a. a ≡ in_row i l → j ≡ l) j i _ _
    (λ h. lt_ind (λ b. j ≡ b → j ≡ l) l i _ _ (λ g e. omega arith) (λ g e. omega arith))
    (λ h. lt_ind (λ b. j - 1 ≡ b → j ≡ l) l i _ _ (λ g e. omega arith) (λ g e. omega arith))

-- a place of a row is before every later row
rows_apart : (n i k a b : ℕ) → i < k → a < n → n * i + a ≢ n * k + b
rows_apart n i k a b h l e = omega (arith, mul-le-mul_left n h)

pub index_inj : (n i j k l : ℕ) → Pair n i j → Pair n k l → index n i j ≡ index n k l → (i ≡ k) × (j ≡ l)
unfolding index
index_inj n i j k l p q e = go (dec_lt i k) (dec_lt k i)
  where
    go : Dec (i < k) → Dec (k < i) → (i ≡ k) × (j ≡ l)
    go (yes h) d = absurd (rows_apart n i k _ _ h (in_row_lem n i j p) e)
    go (no h) (yes g) = absurd (rows_apart n k i _ _ g (in_row_lem n k l q) (sym e))
    go (no h) (no g) =
        let s : i ≡ k = omega arith in
        (s, in_row_inj i j l p.apart (rw s q.apart) (omega (arith, ap (λ (a : ℕ). n * a + in_row a l) s)))

-- and each of them is some cell's.
-- the processor to whom cell a of the row of i is
dest : ℕ → ℕ → ℕ
dest i a = pick (ltb a i) a (a + 1)

dest_in_row : (n i a : ℕ) → i ≤ n → a < n → Pair n i (dest i a) × (in_row i (dest i a) ≡ a)
unfolding dest in_row
dest_in_row n i a hi ha =
    lt_ind (λ j. Pair n i j × (in_row i j ≡ a)) a i _ _
    (λ h. (omega arith, at_low h))
    (λ h. (omega arith, at_high h))
  where
    at_low : a < i → in_row i a ≡ a
    at_low h = lt_ind (λ b. b ≡ a) a i _ _ (λ g. omega arith) (λ g. omega arith)

    at_high : i ≤ a → in_row i (a + 1) ≡ a
    at_high h = lt_ind (λ b. b ≡ a) (a + 1) i _ _ (λ g. omega arith) (λ g. omega arith)

pub index_onto : (n x : ℕ) → x < n * n + n → (i : ℕ) × (j : ℕ) × Pair n i j × (index n i j ≡ x)
unfolding index
index_onto n x h =
    let i : ℕ = x / n in
    let a : ℕ = x % n in
    let pos : 0 < n = some_reader (dec_lt 0 n) in
    let hi : i < n + 1 = (div-lt_iff_lt-mul pos).1 (rw (mul_comm (n + 1) n, mul-add) (omega arith)) in
    let d = dest_in_row n i a (omega arith) (mod-lt x pos) in
    (i, dest i a, d.0, ap (λ (k : ℕ). n * i + k) d.1 ∙ div-add-mod x n)
  where
    some_reader : Dec (0 < n) → 0 < n
    some_reader (yes g) = g
    some_reader (no g) = let z : n ≤ 0 = omega arith in absurd (omega (arith, mul-le-mul_left n z))

-- a place of any table fits 64 bits, whatever 32-bit numbers it is asked for
pub row_fits : (n i : ℕ) → n < 2 ^ 32 → i < 2 ^ 32 → n * i ≤ (2 ^ 32 - 1) * (2 ^ 32 - 1)
row_fits n i hn hi =
    let h : i ≤ 2 ^ 32 - 1 = omega arith in
    omega (arith, mul-le-mul_left n h)

-- "the other readers, in rising order": each of them is a reader other than p, they rise, and every other reader is one of them.
pub other_valid : (n p k : ℕ) → 1 ≤ p → p ≤ n → k + 1 < n → (1 ≤ other p k) × (other p k ≤ n) × (other p k ≢ p)
unfolding other
other_valid n p k h1 h2 h =
    lt_ind (λ q. (1 ≤ q) × (q ≤ n) × (q ≢ p)) (k + 1) p _ _ (λ g. omega arith) (λ g. omega arith)

pub other_rises : (p j k : ℕ) → j < k → other p j < other p k
unfolding other
other_rises p j k h =
    lt_ind (λ a. a < other p k) (j + 1) p _ _
    (λ g. lt_ind (λ b. j + 1 < b) (k + 1) p _ _ (λ f. omega arith) (λ f. omega arith))
    (λ g. lt_ind (λ b. j + 2 < b) (k + 1) p _ _ (λ f. omega arith) (λ f. omega arith))

pub other_onto : (n p q : ℕ) → 1 ≤ p → p ≤ n → 1 ≤ q → q ≤ n → q ≢ p → (k : ℕ) × (k + 1 < n) × (other p k ≡ q)
unfolding other
other_onto n p q p1 pn q1 qn ne = elim (dec_lt q p) [
  | yes h ↦ (q - 1, omega arith, lt_ind (λ a. a ≡ q) (q - 1 + 1) p _ _ (λ g. omega arith) (λ g. omega arith))
  | no h ↦ (q - 2, omega arith, lt_ind (λ a. a ≡ q) (q - 2 + 1) p _ _ (λ g. omega arith) (λ g. omega arith))
]
