-- What the program `sheet` prints: the course sheet (document 02, card 10).
use Rattle.std.specs.Prelude.{ℕ, suc, zero, List, [], ◌++◌, length}
use Rattle.judging.specs.Answer.{begins_to, cases}
use Rattle.lags.specs.Sheet.{figures_in, line_at}
use Rattle.lags.specs.declared.Line.{Line}
use Rattle.lags.specs.declared.Figures.{Figures}
use Rattle.lines.specs.Ascii.{ascii}
use Rattle.lines.specs.Lines.{decimal, line_of, refused_line, no_order_line}
use Rattle.printing.specs.Verdict.{from_bytes}

-- the end of a line: ` reads k lag s`
unfoldable pub lag_end : ℕ → ℕ → List ℕ
lag_end k s = ascii " reads " ++ decimal k ++ line_of (ascii " lag ") s

-- `reader i reads k lag s`
unfoldable pub reader_line : ℕ → ℕ → ℕ → List ℕ
reader_line i k s = ascii "reader " ++ decimal i ++ lag_end k s

-- "per reader": the lines of the readers 1..n
unfoldable pub reader_lines : List Line → ℕ → List ℕ
reader_lines l zero = []
reader_lines l (suc i) = reader_lines l i ++ reader_line (suc i) (line_at l (suc i)).reads (line_at l (suc i)).lags

-- "and the totals": `all reads k lag s`
unfoldable pub figures_text : Figures → List ℕ
figures_text f = reader_lines f.lines f.readers ++ ascii "all" ++ lag_end f.total.reads f.total.lags

-- "A log that the judge refuses has no sheet and gets the judge's refusal"
unfoldable pub sheet_text : List ℕ → List ℕ
sheet_text rows = cases rows (begins_to rows (length rows)) refused_line no_order_line (λ l. figures_text (figures_in rows l))

-- What the program prints for a log as bytes.
abbrev pub sheet_print : List ℕ → List ℕ
sheet_print bytes = from_bytes sheet_text bytes
