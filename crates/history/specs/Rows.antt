-- The rows of a log. "Row 0: kind 5, n, start reading. Then 1 write begins (its reading), 2 write ends (0), 3 read begins (0),
-- 4 read ends (its result)." "Add row kind 6, read ends, which question 10 takes wherever it takes kind 4" (document 02, card 13).
use Rattle.std.specs.Prelude.{ℕ, ◌/◌, ◌%◌, Bool, ◌&&◌, ◌||◌, List, eqb, leb, get_or}
use Rattle.words.specs.Choice.{pick}
use Rattle.words.specs.Row.{unpack_row, zero_bits}

-- the fields of a row's word
abbrev pub kind_bits : ℕ → ℕ
kind_bits w = (unpack_row w).kind

abbrev pub processor_of : ℕ → ℕ
processor_of w = (unpack_row w).processor

abbrev pub value_of : ℕ → ℕ
value_of w = (unpack_row w).value

-- what a row of kind k tells, as a kind: 4, a read ends, with a result or with a band
abbrev pub kind_told : ℕ → ℕ
kind_told k = pick (eqb k 6) 4 k

unfoldable pub kind_of : ℕ → ℕ
kind_of w = kind_told (kind_bits w)

-- a band: "the low 32 bits are two 16-bit numbers, lowest (upper half) and highest"
abbrev pub lowest : ℕ → ℕ
lowest v = v / 65536

abbrev pub highest : ℕ → ℕ
highest v = v % 65536

-- the reading v "lies within both, ends included", of the band b
unfoldable pub within : ℕ → ℕ → Bool
within b v = leb (lowest b) v && leb v (highest b)

-- Whether a read that the row w ends may stand behind a write, or the start, of reading v. Kind 4: "Each read has the reading of the
-- last write before it, or the start reading." Kind 6: "Such a read may stand behind any write, or the start, whose reading lies within both".
unfoldable pub suits : ℕ → ℕ → Bool
suits w v = pick (eqb (kind_bits w) 6) (within (value_of w) v) (eqb v (value_of w))

-- a begin: kinds 1 and 3
unfoldable pub begins : ℕ → Bool
begins w = eqb (kind_of w) 1 || eqb (kind_of w) 3

-- the same of row k of a log
unfoldable pub kind_at : List ℕ → ℕ → ℕ
kind_at log k = kind_of (get_or log k 0)

unfoldable pub processor_at : List ℕ → ℕ → ℕ
processor_at log k = processor_of (get_or log k 0)

unfoldable pub zero_at : List ℕ → ℕ → ℕ
zero_at log k = zero_bits (get_or log k 0)

unfoldable pub value_at : List ℕ → ℕ → ℕ
value_at log k = value_of (get_or log k 0)

abbrev pub begins_at : List ℕ → ℕ → Bool
begins_at log k = begins (get_or log k 0)
