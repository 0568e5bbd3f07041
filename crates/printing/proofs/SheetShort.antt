-- No print of a sheet is longer than the buffer that its program lends.
use Prim.Native.Nat.{ℕ, zero, suc, ◌*◌, ◌^◌, ◌≤◌, ◌<◌}
use native.Mathlib.Omega.{arith}
use mathlib.Core.Path.{refl}
use mathlib.Core.List.{List, ◌++◌}
use lib.ListN.{length, length-append}
use Rattle.history.specs.Rows.{processor_at}
use Rattle.history.specs.History.{history_of}
use Rattle.history.specs.Sweep.{missing}
use Rattle.history.specs.Listing.{listing}
use Rattle.judging.specs.Answer.{begins_to}
use Rattle.judging.specs.Meaning.{Formed}
use Rattle.judging.proofs.Asked.{tested, Asked, no9, no10, no11, no12, none, ask, said, cases_are}
use Rattle.lags.specs.Sheet.{reads_of, lags_of, over_readers, lines_in, line_at, figures_in}
use Rattle.lags.specs.declared.Line.{Line}
use Rattle.lags.proofs.Totals.{readers_few}
use Rattle.lags.proofs.Filling.{lines_small}
use Rattle.lags.proofs.Figured.{totals_small}
use Rattle.lines.specs.Ascii.{ascii}
use Rattle.lines.specs.Lines.{decimal, line_of, refused_line, no_order_line}
use Rattle.lines.proofs.Lengths.{decimal_short, line_short}
use Rattle.printing.specs.Sheet.{lag_end, reader_line, reader_lines, figures_text, sheet_text, sheet_print}
use Rattle.printing.proofs.Short.{refused_short, from_short}

lag_short : (k s : ℕ) → k < 2 ^ 64 → s < 2 ^ 64 → length (lag_end k s) ≤ 53
unfolding lag_end
lag_short k s a b =
    omega (
      arith,
      length-append (ascii " reads " ++ decimal k) (line_of (ascii " lag ") s),
      length-append (ascii " reads ") (decimal k),
      decimal_short k a,
      line_short (ascii " lag ") s b,
    )

reader_short : (i k s : ℕ) → i < 2 ^ 64 → k < 2 ^ 64 → s < 2 ^ 64 → length (reader_line i k s) ≤ 80
unfolding reader_line
reader_short i k s a b c =
    omega (
      arith,
      length-append (ascii "reader " ++ decimal i) (lag_end k s),
      length-append (ascii "reader ") (decimal i),
      decimal_short i a,
      lag_short k s b c,
    )

lines_short : (l : List Line) → ((i : ℕ) → (line_at l i).reads < 2 ^ 32) × ((i : ℕ) → (line_at l i).lags < 2 ^ 32) → (n : ℕ) → n ≤ 16
    → length (reader_lines l n) ≤ 80 * n
unfolding reader_lines
lines_short l b zero h = omega arith
lines_short l b (suc n) h =
    let k = (line_at l (suc n)).reads in
    let s = (line_at l (suc n)).lags in
    omega (
      arith,
      length-append (reader_lines l n) (reader_line (suc n) k s),
      lines_short l b n (omega arith),
      reader_short (suc n) k s (omega arith) (omega (arith, b.0 (suc n))) (omega (arith, b.1 (suc n))),
    )

module _ (log : List ℕ) where
  figures_short : Formed log → length (figures_text (figures_in log (listing log))) ≤ 1336
  unfolding figures_text figures_in
  figures_short F =
      let n = processor_at log 0 in
      let s = lines_in log (listing log) in
      let few = readers_few log F in
      let b = lines_small log (listing log) s (tested F) F.size.few refl in
      let t = totals_small log F (listing log) in
      omega (
        arith,
        length-append (reader_lines s n ++ ascii "all") (lag_end (over_readers (reads_of log) n) (over_readers (lags_of log (listing log)) n)),
        length-append (reader_lines s n) (ascii "all"),
        lines_short s b n few,
        lag_short (over_readers (reads_of log) n) (over_readers (lags_of log (listing log)) n) (omega (arith, t.0)) (omega (arith, t.1)),
      )

  sheet_by : (a : Asked log (begins_to log (length log))) → length (said log (begins_to log (length log)) refused_line no_order_line (λ l. figures_text (figures_in log l)) a) ≤ 2048
  sheet_by (no9 a) = omega (arith, refused_short 9 (omega arith))
  sheet_by (no10 r w) = omega (arith, refused_short 10 (omega arith))
  sheet_by (no11 F a) = omega (arith, refused_short 11 (omega arith))
  sheet_by (no12 F a b) = omega (arith, line_short (ascii "no order ") (missing (history_of log)) (omega (arith, F.size.few)))
  sheet_by (none F a b) = omega (arith, figures_short F)

  sheet_few : length (sheet_text log) ≤ 2048
  unfolding sheet_text
  sheet_few = rw (cases_are log (begins_to log (length log)) refused_line no_order_line _ (ask log _)) (sheet_by (ask log _))

pub sheet_short : (b : List ℕ) → length (sheet_print b) ≤ 2048
sheet_short b = from_short sheet_text 2048 (omega arith) sheet_few b
