-- What a well-formed log is: question 10 in the papers' words, which its test (WellFormed) asks.
use Rattle.std.specs.Prelude.{ℕ, ◌≤◌, ◌<◌, ◌≡◌, ◌⊎◌, ◌≢◌, List, length, get_or}
use Rattle.words.specs.Row.{zero_bits}
use Rattle.history.specs.Rows.{kind_bits, processor_of, value_of, lowest, highest, kind_at, processor_at, zero_at}

-- "1..n"
pub record OneOf (n p : ℕ) : Type 0 where
  pub low : 1 ≤ p
  pub high : p ≤ n

-- "row 0 as above with n 1 to 16": "Row 0: kind 5, n, start reading."
pub record Starts (w : ℕ) : Type 0 where
  pub kind_is : kind_bits w ≡ 5
  pub bits_zero : zero_bits w ≡ 0
  pub readers : OneOf 16 (processor_of w)

-- "later rows kinds 1 to 4, .. and the readings of kinds 2 and 3 zero, processor 0 for kinds 1 and 2, 1..n for 3 and 4": a row of kind k,
-- processor p and value v, with n readers. "Add row kind 6, read ends, which question 10 takes wherever it takes kind 4"; "Lowest above
-- highest is malformed" (document 02, card 13).
pub data Tells (n k p v : ℕ) : Type 0 where
  write_begins : k ≡ 1 → p ≡ 0 → Tells n k p v
  write_ends : k ≡ 2 → p ≡ 0 → v ≡ 0 → Tells n k p v
  read_begins : k ≡ 3 → OneOf n p → v ≡ 0 → Tells n k p v
  read_ends : k ≡ 4 → OneOf n p → Tells n k p v
  read_ends_in_band : k ≡ 6 → OneOf n p → lowest v ≤ highest v → Tells n k p v

-- row k begins an operation
abbrev pub Begins : List ℕ → ℕ → Type 0
Begins log k = (kind_at log k ≡ 1) ⊎ (kind_at log k ≡ 3)

-- j is the last row before row k of processor i; row 0 is nobody's
pub record LastRow (log : List ℕ) (i k j : ℕ) : Type 0 where
  pub real : 0 < j
  pub before : j < k
  pub own : processor_at log j ≡ i
  pub none : (m : ℕ) → j < m → m < k → processor_at log m ≢ i

pub record RowFormed (log : List ℕ) (k : ℕ) : Type 0 where
  -- "zero bits .. zero"
  pub bits_zero : zero_at log k ≡ 0
  pub tells : let w = get_or log k 0 in Tells (processor_at log 0) (kind_bits w) (processor_of w) (value_of w)
  -- "begins and ends alternating per processor, a begin first": a begin's processor has no row before it, or an end,
  pub begin_behind : Begins log k → (j : ℕ) → LastRow log (processor_at log k) k j → ¬ Begins log j
  -- and an end's has a begin
  pub end_behind : ¬ Begins log k → (j : ℕ) × (LastRow log (processor_at log k) k j × Begins log j)

pub record LogFormed (log : List ℕ) : Type 0 where
  pub some : 0 < length log
  pub starts : Starts (get_or log 0 0)
  pub rows : (k : ℕ) → 0 < k → k < length log → RowFormed log k
