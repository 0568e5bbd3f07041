-- A field of a word: `width` bits from place `at` on.
use Rattle.std.specs.Prelude.{ℕ, ◌*◌, ◌/◌, ◌%◌, ◌^◌}

-- the lowest bits
abbrev pub low : ℕ → ℕ → ℕ
low width word = word % 2 ^ width

-- what a field holds
abbrev pub field : ℕ → ℕ → ℕ → ℕ
field at width word = low width (word / 2 ^ at)

-- what a field adds to its word. Of a number that does not fit the low bits are kept, so that no other field is touched.
abbrev pub put : ℕ → ℕ → ℕ → ℕ
put at width x = low width x * 2 ^ at
