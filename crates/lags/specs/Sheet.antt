-- The course sheet: "Give per reader the number of ended reads and the sum of their lags, and the totals."
use Rattle.std.specs.Prelude.{ℕ, suc, zero, ◌+◌, Bool, ◌&&◌, List, [], ◌∷◌, ◌++◌, Option, Some, None, map, eqb, length, get_or}
use Rattle.words.specs.Choice.{pick}
use Rattle.history.specs.Rows.{kind_at, processor_at}
use Rattle.history.specs.WellFormed.{open_at}
use Rattle.judging.specs.Fold.{up_to}
use Rattle.judging.specs.Answer.{Answer, begins_to, cases, settled_of}
use Rattle.judging.specs.Rowwise.{processors}
use Rattle.lags.specs.Lag.{lag_of}
use Rattle.lags.specs.declared.Line.{Line}
use Rattle.lags.specs.declared.Figures.{Figures}

-- g of each row before k that passes t, by row
unfoldable pub picked : (ℕ → Bool) → (ℕ → ℕ) → ℕ → List ℕ
picked t g zero = []
picked t g (suc e) = picked t g e ++ pick (t e) (g e ∷ []) []

-- row e ends a read of reader i
abbrev pub ends_read_of : List ℕ → ℕ → ℕ → Bool
ends_read_of log i e = eqb (kind_at log e) 4 && eqb (processor_at log e) i

-- reader i's reads that ended before row k, each by its begin row
unfoldable pub reads_to : List ℕ → ℕ → ℕ → List ℕ
reads_to log i k = picked (ends_read_of log i) (open_at log i) k

unfoldable pub sum : List ℕ → ℕ
sum [] = 0
sum (x ∷ l) = x + sum l

-- "per reader the number of ended reads"
unfoldable pub reads_of : List ℕ → ℕ → ℕ
reads_of log i = length (reads_to log i (length log))

-- "and the sum of their lags", where the order is l
unfoldable pub lags_of : List ℕ → List ℕ → ℕ → ℕ
lags_of log l i = sum (map (lag_of log l) (reads_to log i (length log)))

-- "per reader and then over readers": f of the readers 1..n, added
unfoldable pub over_readers : (ℕ → ℕ) → ℕ → ℕ
over_readers f zero = 0
over_readers f (suc i) = over_readers f i + f (suc i)

-- f of the processors below n, as an array
unfoldable pub array_of : {A : Type 0} → (ℕ → A) → ℕ → List A
array_of f zero = []
array_of f (suc i) = array_of f i ++ (f i ∷ [])

-- the readers' lines, where the order is l
unfoldable pub lines_in : List ℕ → List ℕ → List Line
lines_in log l = array_of (λ i. record { reads = reads_of log i; lags = lags_of log l i }) processors

-- processor i's line, of those that there are
abbrev pub line_at : List Line → ℕ → Line
line_at lines i = get_or lines i (record { reads = 0; lags = 0 })

-- and all figures
unfoldable pub figures_in : List ℕ → List ℕ → Figures
figures_in log l =
    let n = processor_at log 0 in
    record { readers = n; lines = lines_in log l; total = record { reads = over_readers (reads_of log) n; lags = over_readers (lags_of log l) n } }

-- "A log that the judge refuses has no sheet and gets the judge's refusal; order places and an index are not lent." What the judge says
-- where there are places for every begin row, and none is written
unfoldable pub sheet_answer : List ℕ → Answer
sheet_answer log = settled_of log (begins_to log (length log))

-- the figures, of which a refused log has none
unfoldable pub figures_of : List ℕ → Option Figures
figures_of log = cases log (begins_to log (length log)) (λ _. None) (λ _. None) (λ l. Some (figures_in log l))

-- "Today's sheet adds row by row": f of each read that ended before row k, added at its end row
unfoldable pub row_by_row : List ℕ → (ℕ → ℕ) → ℕ → ℕ
row_by_row log f k = up_to (λ n e. n + pick (eqb (kind_at log e) 4) (f (open_at log (processor_at log e) e)) 0) 0 k
