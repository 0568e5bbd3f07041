-- Course sheets, as one table that one fact covers. What is to come of each was worked out by hand from document 02, card 10; an outside model has
-- the same.
use Prim.Native.Nat.{ℕ, ◌+◌, ◌*◌}
use mathlib.Core.Path.{◌≡◌, refl}
use mathlib.Core.List.{List, [], ◌∷◌, ◌++◌, map}
use lib.ListN.{take, replicate}
use Rattle.std.specs.Prelude.{Option, Some, None}
use Rattle.words.specs.Row
use Rattle.words.specs.Row.{row_of}
use Rattle.history.specs.Search
use Rattle.history.specs.Rows
use Rattle.history.specs.WellFormed
use Rattle.history.specs.History
use Rattle.history.specs.Linearization
use Rattle.history.specs.Sweep
use Rattle.history.specs.Listing
use Rattle.judging.specs.Fold
use Rattle.judging.specs.Answer
use Rattle.judging.specs.Rowwise.{processors}
use Rattle.lags.specs.Lag
use Rattle.lags.specs.Sheet
use Rattle.lags.specs.Sheet.{sheet_answer, figures_of}
use Rattle.lags.specs.declared.Line.{Line}
use Rattle.lags.specs.declared.Figures.{Figures}

-- what came and what is to come: number and values of the answer; and if it is accepted, the readers; for each processor its reads, and their lags;
-- the totals
pub record Session : Type 0 where
  pub got : List (List ℕ)
  pub wanted : List (List ℕ)

abbrev figures_told : Option Figures → List (List ℕ)
figures_told (Some f) = (f.readers ∷ []) ∷ map (λ (l : Line). l.reads) f.lines ∷ map (λ (l : Line). l.lags) f.lines ∷ (f.total.reads ∷ f.total.lags ∷ []) ∷ []
figures_told None = []

abbrev told : List ℕ → List (List ℕ)
told log =
    let a = sheet_answer log in
    (a.number ∷ a.values) ∷ figures_told (figures_of log)

-- the writer's 0, the readers' figures, and 0 for those that there are none of
abbrev by_processor : List ℕ → List ℕ
by_processor l = take processors (0 ∷ (l ++ replicate processors 0))

-- the sheet of a log with n readers, a start reading and rows: the readers' reads and lags, and the totals
abbrev sheet : ℕ → ℕ → List ℕ → List ℕ → List ℕ → ℕ → ℕ → Session
sheet n start rows reads lags k s = record {
  got = told (row_of 5 n start ∷ rows);
  wanted = (0 ∷ 0 ∷ []) ∷ (n ∷ []) ∷ by_processor reads ∷ by_processor lags ∷ (k ∷ s ∷ []) ∷ [];
}

-- "A log that the judge refuses has no sheet and gets the judge's refusal"
abbrev none : List ℕ → List ℕ → Session
none log answer = record { got = told log; wanted = answer ∷ [] }

-- rows in the letters of the listing, and one that ends a read with a band
abbrev W : ℕ → ℕ
W v = row_of 1 0 v

abbrev w : ℕ
w = row_of 2 0 0

abbrev R : ℕ → ℕ
R i = row_of 3 i 0

abbrev r : ℕ → ℕ → ℕ
r i v = row_of 4 i v

abbrev band : ℕ → ℕ → ℕ → ℕ
band i lowest highest = row_of 6 i (lowest * 65536 + highest)

abbrev pub table : List Session
table =
    -- nothing looked, nothing written
    sheet 2 7 ([]) (0 ∷ 0 ∷ []) (0 ∷ 0 ∷ []) 0 0
    ∷ sheet 1 7 (R 1 ∷ r 1 7 ∷ []) (1 ∷ []) (0 ∷ []) 1 0
    -- a read over two writes, behind the start ("place 0 for the start"), the first and the second of them
    ∷ sheet 1 7 (R 1 ∷ W 5 ∷ w ∷ W 6 ∷ w ∷ r 1 7 ∷ []) (1 ∷ []) (2 ∷ []) 1 2
    ∷ sheet 1 7 (R 1 ∷ W 5 ∷ w ∷ W 6 ∷ w ∷ r 1 5 ∷ []) (1 ∷ []) (1 ∷ []) 1 1
    ∷ sheet 1 7 (R 1 ∷ W 5 ∷ w ∷ W 6 ∷ w ∷ r 1 6 ∷ []) (1 ∷ []) (0 ∷ []) 1 0
    -- "writes begun before its end row": ended or not, listed or not, and none begun later
    ∷ sheet 1 7 (R 1 ∷ W 5 ∷ r 1 7 ∷ w ∷ []) (1 ∷ []) (1 ∷ []) 1 1
    ∷ sheet 1 7 (W 5 ∷ R 1 ∷ w ∷ r 1 7 ∷ []) (1 ∷ []) (1 ∷ []) 1 1
    ∷ sheet 1 7 (W 5 ∷ w ∷ R 1 ∷ W 6 ∷ r 1 5 ∷ w ∷ []) (1 ∷ []) (1 ∷ []) 1 1
    ∷ sheet 1 7 (W 5 ∷ R 1 ∷ r 1 7 ∷ []) (1 ∷ []) (1 ∷ []) 1 1
    ∷ sheet 1 7 (W 5 ∷ R 1 ∷ r 1 5 ∷ []) (1 ∷ []) (0 ∷ []) 1 0
    ∷ sheet 1 7 (R 1 ∷ r 1 7 ∷ W 5 ∷ w ∷ W 6 ∷ w ∷ []) (1 ∷ []) (0 ∷ []) 1 0
    -- "the place, among the writes": the order is 1 3 5 7 8
    ∷ sheet 2 7 (R 1 ∷ r 1 7 ∷ W 5 ∷ w ∷ R 1 ∷ r 1 5 ∷ R 2 ∷ W 6 ∷ w ∷ r 2 5 ∷ []) (2 ∷ 1 ∷ []) (0 ∷ 1 ∷ []) 3 1
    -- one reading more than once: the write that it stands behind "in the judge's order"
    ∷ sheet 1 7 (R 1 ∷ W 5 ∷ w ∷ W 5 ∷ w ∷ r 1 5 ∷ []) (1 ∷ []) (1 ∷ []) 1 1
    ∷ sheet 1 5 (R 1 ∷ W 5 ∷ w ∷ r 1 5 ∷ []) (1 ∷ []) (1 ∷ []) 1 1
    ∷ sheet 1 7 (W 5 ∷ w ∷ W 6 ∷ w ∷ R 1 ∷ W 5 ∷ r 1 5 ∷ []) (1 ∷ []) (0 ∷ []) 1 0
    ∷ sheet 2 7 (W 5 ∷ w ∷ W 6 ∷ R 1 ∷ r 1 6 ∷ R 2 ∷ w ∷ W 5 ∷ r 2 5 ∷ []) (1 ∷ 1 ∷ []) (0 ∷ 0 ∷ []) 2 0
    -- "ended reads"
    ∷ sheet 3 7 (R 3 ∷ R 2 ∷ W 5 ∷ w ∷ r 2 7 ∷ R 2 ∷ R 1 ∷ W 6 ∷ []) (0 ∷ 1 ∷ 0 ∷ []) (0 ∷ 1 ∷ 0 ∷ []) 1 1
    -- bands count as reads
    ∷ sheet 1 7 (R 1 ∷ W 5 ∷ w ∷ W 6 ∷ w ∷ band 1 4 9 ∷ []) (1 ∷ []) (2 ∷ []) 1 2
    ∷ sheet 1 7 (R 1 ∷ W 5 ∷ w ∷ W 6 ∷ w ∷ band 1 5 6 ∷ []) (1 ∷ []) (1 ∷ []) 1 1
    ∷ sheet 1 7 (W 5 ∷ w ∷ W 6 ∷ w ∷ R 1 ∷ W 8 ∷ band 1 5 8 ∷ []) (1 ∷ []) (1 ∷ []) 1 1
    ∷ sheet 1 7 (R 1 ∷ W 5 ∷ r 1 7 ∷ R 1 ∷ w ∷ W 6 ∷ band 1 4 5 ∷ R 1 ∷ band 1 6 6 ∷ []) (3 ∷ []) (2 ∷ []) 3 2
    -- "the sum of their lags"
    ∷ sheet 3 0 (R 1 ∷ W 1 ∷ w ∷ r 1 0 ∷ R 1 ∷ W 2 ∷ R 3 ∷ w ∷ r 1 1 ∷ W 3 ∷ r 3 1 ∷ w ∷ R 3 ∷ W 4 ∷ r 3 3 ∷ []) (2 ∷ 0 ∷ 2 ∷ []) (2 ∷ 0 ∷ 3 ∷ []) 4 5
    -- document 01's sessions with order 2 1 4 and 1 2 4 8
    ∷ sheet 2 7 (W 5 ∷ R 2 ∷ r 2 7 ∷ R 1 ∷ r 1 5 ∷ []) (1 ∷ 1 ∷ []) (0 ∷ 1 ∷ []) 2 1
    ∷ sheet 2 7 (W 5 ∷ R 1 ∷ w ∷ W 6 ∷ w ∷ W 5 ∷ r 1 5 ∷ R 2 ∷ r 2 6 ∷ []) (1 ∷ 1 ∷ []) (2 ∷ 1 ∷ []) 2 3
    -- sixteen readers
    ∷ sheet 16 7 (R 11 ∷ W 5 ∷ w ∷ r 11 7 ∷ []) (0 ∷ 0 ∷ 0 ∷ 0 ∷ 0 ∷ 0 ∷ 0 ∷ 0 ∷ 0 ∷ 0 ∷ 1 ∷ 0 ∷ 0 ∷ 0 ∷ 0 ∷ 0 ∷ []) (0 ∷ 0 ∷ 0 ∷ 0 ∷ 0 ∷ 0 ∷ 0 ∷ 0 ∷ 0 ∷ 0 ∷ 1 ∷ 0 ∷ 0 ∷ 0 ∷ 0 ∷ 0 ∷ []) 1 1
    -- refused 9, 10, and 12 with its row; a log that is malformed and has no order
    ∷ none [] (9 ∷ [])
    ∷ none (row_of 5 17 7 ∷ []) (10 ∷ [])
    ∷ none (row_of 5 2 7 ∷ R 1 ∷ band 1 8 7 ∷ []) (10 ∷ [])
    ∷ none (row_of 5 2 7 ∷ W 5 ∷ R 1 ∷ r 1 5 ∷ R 2 ∷ r 2 7 ∷ []) (12 ∷ 4 ∷ [])
    ∷ none (row_of 5 2 7 ∷ W 5 ∷ R 1 ∷ r 1 5 ∷ R 2 ∷ r 2 7 ∷ w ∷ w ∷ []) (10 ∷ [])
    ∷ []

pub sessions : map (λ (s : Session). s.got) table ≡ map (λ (s : Session). s.wanted) table
unfolding Row.pack_row Rows.kind_of Rows.within Rows.suits Rows.begins Rows.kind_at Rows.processor_at Rows.zero_at Rows.value_at WellFormed.well_formed WellFormed.head_ok WellFormed.fields WellFormed.open_at WellFormed.alternates WellFormed.row_ok WellFormed.all History.event_at History.end_at Search.first Linearization.position_in Linearization.last_write Linearization.stands_behind Sweep.place_at Sweep.adds Sweep.floors Sweep.floor Sweep.place Sweep.missing Listing.behind Listing.group Listing.build Listing.listing Fold.up_to Answer.count_after Answer.begins_to Answer.cases Answer.settled_of Lag.with_write Lag.begun_before Lag.rank_of Lag.lag_of Sheet.picked Sheet.reads_to Sheet.sum Sheet.reads_of Sheet.lags_of Sheet.over_readers Sheet.array_of Sheet.lines_in Sheet.figures_in Sheet.sheet_answer Sheet.figures_of
sessions = refl
