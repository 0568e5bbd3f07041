-- How long the lines are.
use Prim.Native.Nat.{ℕ, zero, suc, ◌+◌, ◌*◌, ◌/◌, ◌%◌, ◌^◌, ◌≤◌, ◌<◌}
use native.Mathlib.Omega.{arith}
use native.Mathlib.Decide.{dec_lt}
use mathlib.Core.Bool.{◌||◌}
use mathlib.Core.List.{List, [], ◌∷◌, ◌++◌, flat_map}
use lib.Dec.{eqb}
use lib.ListN.{length, get_or, length-append}
use Rattle.words.specs.Row.{unpack_row}
use Rattle.words.specs.declared.row.Row.{Row}
use Rattle.words.proofs.Laws.Choice.{pick_ind}
use Rattle.lines.specs.Ascii.{ascii}
use Rattle.lines.specs.Lines.{decimal, line_of, field, order_line, letter_of, reader_text, reading_text, row_text, row_line, row_lines, readers_line}
use Rattle.lines.proofs.LineLaws.{decimal_small, decimal_large}

-- A number of 64 bits has at most 20 digits.
tens : ℕ → ℕ
tens zero = 10
tens (suc k) = tens k * 10

digits_to : (k n : ℕ) → n < tens k → length (decimal n) ≤ suc k
unfolding tens
digits_to zero n h = rw (decimal_small n h) (omega arith)
digits_to (suc k) n h =
    elim (dec_lt n 10) [
      | yes l ↦ rw (decimal_small n l) (omega arith)
      | no l ↦ rw (decimal_large n (omega arith), length-append (decimal (n / 10)) ((48 + n % 10) ∷ [])) (omega (arith, digits_to k (n / 10) (omega arith)))
    ]

pub decimal_short : (n : ℕ) → n < 2 ^ 64 → length (decimal n) ≤ 20
unfolding tens
decimal_short n h = digits_to 19 n (omega arith)

pub line_short : (s : List ℕ) (n : ℕ) → n < 2 ^ 64 → length (line_of s n) ≤ length s + 21
unfolding line_of
line_short s n h = omega (arith, length-append (s ++ decimal n) (10 ∷ []), length-append s (decimal n), decimal_short n h)

field_short : (n : ℕ) → n < 2 ^ 64 → length (field n) ≤ 21
unfolding field
field_short n h = omega (arith, decimal_short n h)

fields_short : (ns : List ℕ) → ((i : ℕ) → get_or ns i 0 < 2 ^ 64) → length (flat_map field ns) ≤ 21 * length ns
unfolding flat_map
fields_short [] h = omega arith
fields_short (n ∷ ns) h =
    omega (arith, length-append (field n) (flat_map field ns), field_short n (h 0), fields_short ns (λ i. h (suc i)))

pub order_short : (ns : List ℕ) → ((i : ℕ) → get_or ns i 0 < 2 ^ 64) → length (order_line ns) ≤ 21 * length ns + 6
unfolding order_line
order_short ns h =
    omega (arith, length-append (ascii "order" ++ flat_map field ns) (10 ∷ []), length-append (ascii "order") (flat_map field ns), fields_short ns h)

pub readers_short : (n v : ℕ) → n < 2 ^ 64 → v < 2 ^ 64 → length (readers_line n v) ≤ 56
unfolding readers_line
readers_short n v a b =
    omega (
      arith,
      length-append (ascii "readers " ++ decimal n) (line_of (ascii " start ") v),
      length-append (ascii "readers ") (decimal n),
      decimal_short n a,
      line_short (ascii " start ") v b,
    )

-- Rows.
reader_short : (kind p : ℕ) → p < 2 ^ 64 → length (reader_text kind p) ≤ 21
unfolding reader_text
reader_short kind p h = pick_ind (λ (t : List ℕ). length t ≤ 21) (eqb kind 3 || eqb kind 4) _ _ (λ _. field_short p h) (λ _. omega arith)

reading_short : (kind v : ℕ) → v < 2 ^ 64 → length (reading_text kind v) ≤ 21
unfolding reading_text
reading_short kind v h = pick_ind (λ (t : List ℕ). length t ≤ 21) (eqb kind 1 || eqb kind 4) _ _ (λ _. field_short v h) (λ _. omega arith)

text_short : (k : ℕ) (r : Row) → k < 2 ^ 64 → r.processor < 2 ^ 64 → r.value < 2 ^ 64 → length (row_text k r) ≤ 65
unfolding row_text
text_short k r a b c =
    let d = decimal k in
    let g : List ℕ = 32 ∷ letter_of r.kind ∷ [] in
    let p = reader_text r.kind r.processor in
    let v = reading_text r.kind r.value in
    omega (
      arith,
      length-append (d ++ g ++ p ++ v) (10 ∷ []),
      length-append (d ++ g ++ p) v,
      length-append (d ++ g) p,
      length-append d g,
      decimal_short k a,
      reader_short r.kind r.processor b,
      reading_short r.kind r.value c,
    )

row_short : (k w : ℕ) → k < 2 ^ 64 → length (row_line k w) ≤ 65
row_short k w h = text_short k (unpack_row w) h (omega arith) (omega arith)

pub rows_short : (k : ℕ) (ws : List ℕ) → k + length ws < 2 ^ 64 → length (row_lines k ws) ≤ 65 * length ws
unfolding row_lines
rows_short k [] h = omega arith
rows_short k (w ∷ ws) h = omega (arith, length-append (row_line k w) (row_lines (k + 1) ws), row_short k w (omega arith), rows_short (k + 1) ws (omega arith))
