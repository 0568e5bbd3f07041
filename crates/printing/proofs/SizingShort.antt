-- No print of a sizing is longer than the buffer that its program lends.
use Prim.Native.Nat.{ℕ, ◌*◌, ◌≤◌, min}
use native.Mathlib.Omega.{arith}
use native.Mathlib.Nat.{mul-le-mul}
use mathlib.Core.Bool.{Bool, true, false, ◌&&◌}
use mathlib.Core.List.{List, [], ◌++◌}
use lib.Dec.{leb}
use lib.ListN.{length, length-append}
use borrow.Author.Tests.{leb-true}
use Rattle.words.specs.Choice.{pick}
use Rattle.words.proofs.Laws.Choice.{pick_ind, left, right}
use Rattle.common.specs.SetUp.{readers_fit}
use Rattle.figures.specs.Sizing.{Sizing}
use Rattle.figures.specs.declared.NoFigures.TheVariants.{Refused, Larger, TooLong}
use Rattle.std.proofs.Common.{Ok, Err}
use Rattle.figures.specs.Sizing.{rows_for, write_words, read_words, second_words, least_words, most_words, most_of, most_rows, size_of}
use Rattle.fields.specs.Fields.{given, one_line_of}
use Rattle.lines.specs.Ascii.{ascii}
use Rattle.lines.specs.Lines.{decimal, line_of}
use Rattle.lines.proofs.Lengths.{decimal_short, line_short}
use Rattle.printing.specs.Print.{most_bytes}
use Rattle.printing.specs.Sizing.{value_of, figures_line, answer_line, has_figures, sizing_text, sizing_print}
use Rattle.printing.proofs.Short.{refused_short}

-- The words of an operation of up to 16 readers.
pub write_few : (counted : Bool) (n : ℕ) → n ≤ 16 → write_words counted n ≤ 32
unfolding write_words
write_few true n h = omega arith
write_few false n h = omega arith

pub read_few : (counted : Bool) (n : ℕ) → n ≤ 16 → read_words counted n ≤ 35
unfolding read_words
read_few true n h = omega arith
read_few false n h = omega arith

pub second_few : (counted : Bool) (n : ℕ) → n ≤ 16 → second_words counted n ≤ 19
unfolding second_words
second_few true n h = omega arith
second_few false n h = omega arith

-- The words of up to 2,000 writes and reads.
module _ (counted : Bool) (n writes reads : ℕ) (a : n ≤ 16) (b : writes ≤ 2000) (c : reads ≤ 2000) where
  pub least_few : least_words counted n writes reads ≤ 134000
  unfolding least_words
  least_few = omega (arith, mul-le-mul (write_few counted n a) b, mul-le-mul (read_few counted n a) c)

  pub most_few : most_words counted n writes reads ≤ 172000
  unfolding most_words
  most_few =
      let m : min reads (n * writes) ≤ 2000 = omega arith in
      omega (arith, least_few, mul-le-mul (second_few counted n a) m)

-- The values of an answer.
abbrev Few : Sizing → Type 0
Few s = (value_of s 0 ≤ 172000) × (value_of s 1 ≤ 172000) × (value_of s 2 ≤ 172000)

values_few : (counted : Bool) (n writes reads : ℕ) → Few (size_of counted n writes reads)
unfolding size_of
values_few counted n writes reads =
    pick_ind Few (readers_fit n) _ _
    (λ fit. pick_ind Few (leb writes most_of && leb reads most_of) _ _
    (λ small. pick_ind Few (leb (rows_for writes reads) most_rows) _ _
    (λ rows. let a = leb-true n 16 (right (leb 1 n) (leb n 16) fit) in
    let b = leb-true writes most_of (left (leb writes most_of) (leb reads most_of) small) in
    let c = leb-true reads most_of (right (leb writes most_of) (leb reads most_of) small) in (
      omega (arith, leb-true (rows_for writes reads) most_rows rows),
      omega (arith, least_few counted n writes reads a b c),
      most_few counted n writes reads a b c,
    ))
    (λ _. (omega arith, omega arith, omega arith)))
    (λ _. (omega arith, omega arith, omega arith)))
    (λ _. (omega arith, omega arith, omega arith))

-- The lines.
module _ (name : List ℕ) (h : length name ≤ 7) where
  figures_short : (s : Sizing) → Few s → length (figures_line name s) ≤ 87
  unfolding figures_line
  figures_short s f =
      let R = decimal (value_of s 0) in
      let L = decimal (value_of s 1) in
      omega (
        arith,
        length-append (name ++ ascii " rows " ++ R ++ ascii " least " ++ L) (line_of (ascii " most ") (value_of s 2)),
        length-append (name ++ ascii " rows " ++ R ++ ascii " least ") L,
        length-append (name ++ ascii " rows " ++ R) (ascii " least "),
        length-append (name ++ ascii " rows ") R,
        length-append name (ascii " rows "),
        decimal_short (value_of s 0) (omega (arith, f.0)),
        decimal_short (value_of s 1) (omega (arith, f.1)),
        line_short (ascii " most ") (value_of s 2) (omega (arith, f.2)),
      )

  answer_short : (s : Sizing) → Few s → length (answer_line name s) ≤ 87
  unfolding answer_line
  answer_short (Err Refused) f = omega (arith, refused_short 1 (omega arith))
  answer_short (Err Larger) f = omega (arith, line_short (ascii "more than ") 2000 (omega arith))
  answer_short (Err TooLong) f =
      let R = decimal (value_of (Err TooLong) 0) in
      omega (
        arith,
        length-append (ascii "more than " ++ R) (ascii " rows\n"),
        length-append (ascii "more than ") R,
        decimal_short (value_of (Err TooLong) 0) (omega arith),
      )
  answer_short (Ok g) f = figures_short (Ok g) f

text_short : (n writes reads : ℕ) → length (sizing_text n writes reads) ≤ 256
unfolding sizing_text
text_short n writes reads =
    let s = size_of false n writes reads in
    let counted = answer_line (ascii "counted") (size_of true n writes reads) in
    let c : length (pick (has_figures s) counted []) ≤ 87 =
    pick_ind (λ (t : List ℕ). length t ≤ 87) (has_figures s) _ _
    (λ _. answer_short (ascii "counted") (omega arith) (size_of true n writes reads) (values_few true n writes reads))
    (λ _. omega arith) in
    omega (
      arith,
      length-append (answer_line (ascii "tickets") s) (pick (has_figures s) counted []),
      answer_short (ascii "tickets") (omega arith) s (values_few false n writes reads),
      c,
    )

pub sizing_short : (b : List ℕ) → length (sizing_print b) ≤ 256
unfolding sizing_print
sizing_short b =
    pick_ind (λ (t : List ℕ). length t ≤ 256) (one_line_of most_bytes 3 b) _ _ (λ _. text_short (given b 0) (given b 1) (given b 2))
    (λ _. omega (arith, line_short (ascii "bad line ") 1 (omega arith)))
