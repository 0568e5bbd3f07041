-- What the fresh tables of both registers are made of, and how the cells of each stand in rows.
use Rattle.std.specs.Prelude.{ℕ, ◌+◌, ◌-◌, ◌*◌, ◌/◌, ◌≤◌, ◌≡◌, ◌++◌, replicate, refl}
use mathlib.Core.Path.{ap}
use native.Mathlib.Omega.{arith}
use native.Mathlib.Nat.{mul-le-mul_left, mul-div_cancel', dvd-mul_right}
use Rattle.words.specs.Index.{row_start, in_row, index}
use Rattle.words.specs.Stamp.{none}
use Rattle.words.specs.Cell.{pack_cell}
use Rattle.protocol.specs.Table.{plain}
use Rattle.protocol.specs.Rules.{fresh_cells, ticket_rules}
use Rattle.counted.specs.Cell as Counted
use Rattle.counted.specs.Rules.{fresh_cells as counted_fresh_cells, counted_rules}

-- the word of the first register's fresh cell from the writer, of a start value; it has no fresh stamp
abbrev pub ticket_word : ℕ → ℕ → ℕ
ticket_word v fresh = pack_cell (plain v (record { cur = 0; prev = 1 }))

-- the word of any other fresh cell of it
abbrev pub no_ticket_word : ℕ → ℕ
no_ticket_word fresh = pack_cell (plain 0 none)

-- the word of the counted register's fresh cell from the writer, of a start value and a fresh stamp
abbrev pub count_word : ℕ → ℕ → ℕ
count_word v fresh = Counted.pack_cell (record { value = v; stamp = fresh })

-- the word of any other fresh cell of it
abbrev pub no_count_word : ℕ → ℕ
no_count_word fresh = Counted.pack_cell (record { value = 0; stamp = fresh })

-- the first register's cell from i to j stands in the row of i, behind where it starts
pub ticket_place : (n i j : ℕ) → row_start n i + in_row i j ≡ index n i j
unfolding index
ticket_place n i j = refl

-- the first register's writer has a cell to each reader
pub ticket_row : (n : ℕ) → 1 ≤ n → n ≤ ticket_rules.cells n
ticket_row n h = omega arith

-- so has the counted register's
pub counted_row : (n : ℕ) → 1 ≤ n → n ≤ counted_rules.cells n
counted_row n h = omega (arith, mul-le-mul_left n h)

-- the first register's cells fall in parts of n
pub ticket_rows : (n : ℕ) → n * (ticket_rules.cells n / n) ≡ ticket_rules.cells n
ticket_rows n = let e : n * n + n ≡ n * (n + 1) = omega arith in rw e (mul-div_cancel' n (dvd-mul_right n (n + 1)))

-- so do the counted register's
pub counted_rows : (n : ℕ) → n * (counted_rules.cells n / n) ≡ counted_rules.cells n
counted_rows n = mul-div_cancel' n (dvd-mul_right n n)

-- the first register's fresh table is made of its two words: the writer's n cells come first
pub ticket_cells : (n v fresh : ℕ)
    → replicate n (ticket_word v fresh) ++ replicate (ticket_rules.cells n - n) (no_ticket_word fresh) ≡ ticket_rules.fresh_cells n v fresh
unfolding fresh_cells
ticket_cells n v fresh =
    let e : n * n + n - n ≡ n * n = omega arith in
    ap (λ (m : ℕ). replicate n (ticket_word v fresh) ++ replicate m (no_ticket_word fresh)) e

-- so is the counted register's
pub counted_cells : (n v fresh : ℕ)
    → replicate n (count_word v fresh) ++ replicate (counted_rules.cells n - n) (no_count_word fresh) ≡ counted_rules.fresh_cells n v fresh
unfolding counted_fresh_cells
counted_cells n v fresh = refl
