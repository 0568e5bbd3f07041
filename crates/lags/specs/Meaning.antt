-- What a sheet means, in the words of document 02, card 10.
use Rattle.std.specs.Prelude.{ℕ, ◌+◌, ◌≤◌, ◌<◌, ◌≡◌, List, Result, Ok, Err, length, get_or}
use Rattle.history.specs.Rows.{processor_at}
use Rattle.history.specs.Form.{OneOf}
use Rattle.history.specs.History.{end_at, history_of, Write, Read}
use Rattle.history.specs.Linearization.{Stands, last_write}
use Rattle.history.specs.Earliest.{Earliest}
use Rattle.judging.specs.Rowwise.{processors}
use Rattle.judging.specs.Answer.{begins_to}
use Rattle.judging.specs.Meaning.{Formed, Means}
use Rattle.judging.specs.declared.Fault.{Fault}
use Rattle.lags.specs.Lag.{lag_of}
use Rattle.lags.specs.Sheet.{sum, over_readers, line_at, row_by_row}
use Rattle.lags.specs.declared.Figures.{Figures}

-- l has each x with P x, and nothing else, rising
pub record Lists (P : ℕ → Type 0) (l : List ℕ) : Type 0 where
  pub only : (i x : ℕ) → Stands l i x → P x
  pub all : (x : ℕ) → P x → (i : ℕ) × Stands l i x
  pub rising : (i j x y : ℕ) → Stands l i x → Stands l j y → i < j → x < y

-- so many x have P x
pub record Number (P : ℕ → Type 0) (n : ℕ) : Type 0 where
  pub which : List ℕ
  pub these : Lists P which
  pub number : n ≡ length which

-- n is the lag of the ended read r, where the order is l
pub record LagIs (log l : List ℕ) (r n : ℕ) : Type 0 where
  -- "writes begun before its end row"
  pub begun : ℕ
  pub begun_count : Number (λ w. Write (history_of log) w × (w < end_at log r)) begun
  -- "the one it stands behind in the judge's order": a write, or the start, row 0
  pub behind : ℕ
  pub position : ℕ
  pub stands : Stands l position r
  pub behind_is : behind ≡ last_write (history_of log) l position
  -- "the place, among the writes, of the one": 1 for the first of them; "place 0 for the start"
  pub rank : ℕ
  pub rank_is : Number (λ w. Write (history_of log) w × (w ≤ behind)) rank
  -- "less": it is not negative,
  pub less : n + rank ≡ begun
  -- but the number of writes begun behind that one and before its end row
  pub between : Number (λ w. Write (history_of log) w × (behind < w) × (w < end_at log r)) n

-- reader i's line, where the order is l
pub record LineOf (log l : List ℕ) (i reads lags : ℕ) : Type 0 where
  -- "the number of ended reads"
  pub ended : List ℕ
  pub these : Lists (λ r. Read (history_of log) (length log) r × (processor_at log r ≡ i)) ended
  pub number : reads ≡ length ended
  -- "and the sum of their lags"
  pub each : List ℕ
  pub each_is : (j r : ℕ) → Stands ended j r → LagIs log l r (get_or each j 0)
  pub as_many : length each ≡ length ended
  pub lags_are : lags ≡ sum each

-- The figures of a log that has an order.
pub record Filled (log : List ℕ) (f : Figures) : Type 0 where
  pub log_ok : Formed log
  -- "the judge's order": the earliest-placed one, and there is no other
  pub order : List ℕ
  pub earliest : Earliest (history_of log) order
  pub only : (l : List ℕ) → Earliest (history_of log) l → l ≡ order
  -- "per reader", 1..n; the writer, and readers that there are none of, have 0 and 0
  pub readers_are : f.readers ≡ processor_at log 0
  pub per_reader : (i : ℕ) → OneOf f.readers i → LineOf log order i (line_at f.lines i).reads (line_at f.lines i).lags
  pub no_others : (i : ℕ) → ¬ OneOf f.readers i → ((line_at f.lines i).reads ≡ 0) × ((line_at f.lines i).lags ≡ 0)
  pub size : length f.lines ≡ processors
  -- "and the totals": "per reader and then over readers"
  pub reads_over : f.total.reads ≡ over_readers (λ i. (line_at f.lines i).reads) f.readers
  pub lags_over : f.total.lags ≡ over_readers (λ i. (line_at f.lines i).lags) f.readers
  -- "Today's sheet adds row by row", "and the totals must agree"
  pub reads_agree : f.total.reads ≡ row_by_row log (λ _. 1) (length log)
  pub lags_agree : f.total.lags ≡ row_by_row log (lag_of log order) (length log)

-- "A log that the judge refuses has no sheet and gets the judge's refusal": the one that it gives where it is lent places enough,
-- whichever they are; they stay as they are
pub record NoSheet (log : List ℕ) (f : Fault) : Type 0 where
  pub refusal : (o : List ℕ) → begins_to log (length log) ≤ length o → Means log o o (Err f)

abbrev pub SheetSays : List ℕ → Result Figures Fault → Type 0
SheetSays log (Ok f) = Filled log f
SheetSays log (Err f) = NoSheet log f
