-- The lines that the programs print, as bytes.
use Rattle.std.specs.Prelude.{ℕ, zero, suc, ◌+◌, ◌/◌, ◌%◌, ◌≤◌, min, max, ◌≡◌, true, false, ◌||◌, eqb, ltb, length, take, drop}
use mathlib.Core.List.{List, [], ◌∷◌, ◌++◌, flat_map}
use Rattle.std.proofs.lemmas.List.Edits.{sets}
use Rattle.words.specs.Choice.{pick}
use Rattle.words.specs.declared.row.Row.{Row}
use Rattle.words.specs.Row.{unpack_row}
use Rattle.lines.specs.Ascii.{ascii}

-- the decimal digits of a number, in at most so many steps; `elim` leaves the other branch alone, so that large numbers compute, too
unfoldable pub decimal_in : ℕ → ℕ → List ℕ
decimal_in zero n = []
decimal_in (suc steps) n =
    elim (ltb n 10) [
      | true ↦ (48 + n) ∷ []
      | false ↦ decimal_in steps (n / 10) ++ ((48 + n % 10) ∷ [])
    ]

unfoldable pub decimal : ℕ → List ℕ
decimal n = decimal_in (suc n) n

-- words and a number, as a line or its end
unfoldable pub line_of : List ℕ → ℕ → List ℕ
line_of words n = words ++ decimal n ++ (10 ∷ [])

-- "`bad line k`"
abbrev pub bad_line : ℕ → List ℕ
bad_line k = line_of (ascii "bad line ") k

-- "A refused call prints `refused k`"
abbrev pub refused_line : ℕ → List ℕ
refused_line k = line_of (ascii "refused ") k

-- "`no order` and the row"
abbrev pub no_order_line : ℕ → List ℕ
no_order_line r = line_of (ascii "no order ") r

-- a space and a number
unfoldable pub field : ℕ → List ℕ
field n = 32 ∷ decimal n

-- "`order` and the begin rows"
unfoldable pub order_line : List ℕ → List ℕ
order_line rows = ascii "order" ++ flat_map field rows ++ (10 ∷ [])

-- `W`, `w`, `R` and `r` for the kinds 1 to 4
unfoldable pub letter_of : ℕ → ℕ
letter_of kind = pick (eqb kind 1) 87 (pick (eqb kind 2) 119 (pick (eqb kind 3) 82 114))

-- "reader for reads", "reading for `W` and `r`"
unfoldable pub reader_text : ℕ → ℕ → List ℕ
reader_text kind p = pick (eqb kind 3 || eqb kind 4) (field p) []

unfoldable pub reading_text : ℕ → ℕ → List ℕ
reading_text kind v = pick (eqb kind 1 || eqb kind 4) (field v) []

-- the line of row k: "Row number, letter, reader for reads, reading for `W` and `r`."
unfoldable pub row_text : ℕ → Row → List ℕ
row_text k r =
    decimal k
    ++ (32 ∷ letter_of r.kind ∷ [])
    ++ reader_text r.kind r.processor
    ++ reading_text r.kind r.value
    ++ (10 ∷ [])

-- the same of a row's word
abbrev pub row_line : ℕ → ℕ → List ℕ
row_line k w = row_text k (unpack_row w)

-- the lines of rows, from row k on
unfoldable pub row_lines : ℕ → List ℕ → List ℕ
row_lines k [] = []
row_lines k (w ∷ ws) = row_line k w ++ row_lines (k + 1) ws

-- those of a log's rows from row 1 on
abbrev pub rows_text : List ℕ → List ℕ
rows_text rows = row_lines 1 (drop 1 rows)

-- "readers 1 start 7"
unfoldable pub readers_line : ℕ → ℕ → List ℕ
readers_line n v = ascii "readers " ++ decimal n ++ line_of (ascii " start ") v

-- A text put into places from place p on, as much of it as there are places for: they become x, and r is the place behind it.
pub record Puts {A : Type 0} (text : List A) (p : ℕ) (bytes x : List A) (r : ℕ) : Type 0 where
  pub bytes_are : x ≡ sets bytes p text
  pub end_is : r ≡ max p (min (p + length text) (length bytes))

-- so many bytes stand at the front of x
abbrev pub Within : ℕ → List ℕ → Type 0
Within r x = (r ≤ length x) × (r ≡ length (take r x))
