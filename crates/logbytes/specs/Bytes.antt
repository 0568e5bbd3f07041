-- A log as bytes: "eight a row, most significant first".
use Rattle.std.specs.Prelude.{ℕ, zero, suc, ◌+◌, ◌*◌, ◌/◌, ◌%◌, ◌^◌, min, List, [], ◌∷◌, ◌++◌, eqb, leb, length, get_or, drop}
use Rattle.words.specs.Choice.{pick}
use Rattle.words.specs.Bits.{low, field}

-- the number in the four bytes, and the word in the eight, from place p on
abbrev pub half_at : List ℕ → ℕ → ℕ
half_at b p = get_or b p 0 * 2 ^ 24 + get_or b (p + 1) 0 * 2 ^ 16 + get_or b (p + 2) 0 * 2 ^ 8 + get_or b (p + 3) 0

abbrev pub word_at : List ℕ → ℕ → ℕ
word_at b p = half_at b p * 2 ^ 32 + half_at b (p + 4)

-- the first k rows
unfoldable pub read_rows : ℕ → List ℕ → List ℕ
read_rows zero b = []
read_rows (suc k) b = word_at b 0 ∷ read_rows k (drop 8 b)

-- the rows of all the bytes
unfoldable pub rows_of : List ℕ → List ℕ
rows_of b = read_rows (length b / 8) b

-- rows filled from the front with as many whole rows as there are, and as there is room for; the rest as it was
unfoldable pub read_into : List ℕ → List ℕ → List ℕ
read_into b rows = let k = min (length b / 8) (length rows) in read_rows k b ++ drop k rows

-- the rows of bytes that are whole rows, and no more than so many; else none
unfoldable pub rows_in : List ℕ → ℕ → List ℕ
rows_in b most = pick (eqb (length b % 8) 0) (pick (leb (length b / 8) most) (rows_of b) []) []

-- the bytes of rows
unfoldable pub bytes_of : List ℕ → List ℕ
bytes_of [] = []
bytes_of (w ∷ ws) =
    field 56 8 w ∷ field 48 8 w ∷ field 40 8 w ∷ field 32 8 w ∷ field 24 8 w ∷ field 16 8 w ∷ field 8 8 w ∷ low 8 w
    ∷ bytes_of ws
