-- What the judge's verdict means, in the words of documents 01 and 02.
use Rattle.std.specs.Prelude.{ℕ, ◌%◌, ◌≤◌, ◌<◌, ◌≡◌, ◌↔◌, List, Result, Ok, Err, length, take, drop}
use Rattle.logbytes.specs.Bytes.{rows_of}
use Rattle.history.specs.Form.{LogFormed}
use Rattle.history.specs.History.{history_of, Read}
use Rattle.history.specs.Linearization.{Linearization, Orders}
use Rattle.history.specs.Earliest.{Earliest}
use Rattle.history.specs.Regular.{IsAtomic}
use Rattle.history.specs.Shrinking.{IsAtomicRun}
use Rattle.judging.specs.Answer.{answer, begins_to}
use Rattle.judging.specs.declared.Fault.{Fault}
use Rattle.judging.specs.declared.Fault.TheVariants.{WrongLength, Malformed, NoRoom, NoOrder}

-- "1 to 4,096 rows (9)?"
pub record RightLength (log : List ℕ) : Type 0 where
  pub some : 1 ≤ length log
  pub few : length log ≤ 4096

-- and "Rows well formed (10)?"
pub record Formed (log : List ℕ) : Type 0 where
  pub size : RightLength log
  pub formed : LogFormed log

-- and "At least as many order places as begin rows (11)?", of the places o
pub record Roomy (log o : List ℕ) : Type 0 where
  pub log_ok : Formed log
  pub room : begins_to log (length log) ≤ length o

-- "Two definitions, one verdict" (document 02, card 9), of a log that passes the questions before 12: the answer's number is 0 exactly if
-- the log has an order, exactly if it is atomic by report CS-R8704, and exactly if it is by report CS-R8628
pub record BothReports (log : List ℕ) (number : ℕ) : Type 0 where
  pub ordered : (number ≡ 0) ↔ ((l : List ℕ) × Orders log l)
  pub cs_r8704 : (number ≡ 0) ↔ IsAtomic log
  pub cs_r8628 : (number ≡ 0) ↔ IsAtomicRun log

-- The refusals, where the places o have become e. "A no gives its number and alters nothing."
pub record No9 (log o e : List ℕ) : Type 0 where
  pub size : ¬ RightLength log
  pub same : e ≡ o

pub record No10 (log o e : List ℕ) : Type 0 where
  pub size : RightLength log
  pub malformed : ¬ LogFormed log
  pub same : e ≡ o

pub record No11 (log o e : List ℕ) : Type 0 where
  pub log_ok : Formed log
  pub room : length o < begins_to log (length log)
  pub same : e ≡ o

-- "Has it an order (12, with the begin row of the first read, by begin row, such that it and those begun before it already have
-- none)?" Of the reads those begun before row m are taken, for each m; all writes are kept.
pub record No12 (log o e : List ℕ) (r : ℕ) : Type 0 where
  pub asked : Roomy log o
  -- "the begin row of [a] read", which has ended
  pub read : Read (history_of log) (length log) r
  -- "the first": those begun before it have an order
  pub before : (m : ℕ) → m ≤ r → (l : List ℕ) × Linearization (history_of log) m l
  -- "it and those begun before it already have none"
  pub none : (m : ℕ) → r < m → (l : List ℕ) → Linearization (history_of log) m l → ⊥
  -- and it is atomic by neither report
  pub reports : BothReports log (answer (Err (NoOrder r))).number
  pub same : e ≡ o

-- Accepted, with n operations.
pub record Yes (log o e : List ℕ) (n : ℕ) : Type 0 where
  pub asked : Roomy log o
  -- "The order buffer receives begin row numbers": those of an order that is "Earliest-placed"
  pub order : Earliest (history_of log) (take n e)
  pub count : n ≡ length (take n e)
  -- no other list is that
  pub only : (l : List ℕ) → Earliest (history_of log) l → l ≡ take n e
  -- and it is atomic by both reports
  pub reports : BothReports log (answer (Ok n)).number
  -- "places beyond are untouched"
  pub beyond : drop n e ≡ drop n o

abbrev pub Means : List ℕ → List ℕ → List ℕ → Result ℕ Fault → Type 0
Means log o e (Ok n) = Yes log o e n
Means log o e (Err WrongLength) = No9 log o e
Means log o e (Err Malformed) = No10 log o e
Means log o e (Err NoRoom) = No11 log o e
Means log o e (Err (NoOrder r)) = No12 log o e r

-- rows that pass questions 9 and 10 and have an order
pub record Ordered (log : List ℕ) : Type 0 where
  pub log_ok : Formed log
  pub order : (l : List ℕ) × Orders log l

-- "the judge also accepts the log as bytes, eight a row": bytes of whole rows, 1 to 4,096 of them. "a length not a multiple of 8 is 9"
pub record BytesLength (b : List ℕ) : Type 0 where
  pub whole : length b % 8 ≡ 0
  pub size : RightLength (rows_of b)

-- "and gives 0 or the number": the byte judge's number, by the first question that its rows get a no to
pub data BytesSay (b : List ℕ) : ℕ → Type 0 where
  says_0 : BytesLength b → Ordered (rows_of b) → BytesSay b 0
  says_9 : ¬ BytesLength b → BytesSay b 9
  says_10 : BytesLength b → ¬ LogFormed (rows_of b) → BytesSay b 10
  says_12 : BytesLength b → LogFormed (rows_of b) → ((l : List ℕ) → ¬ Orders (rows_of b) l) → BytesSay b 12

pub record BytesMean (b : List ℕ) (number : ℕ) : Type 0 where
  pub says : BytesSay b number
  -- of bytes that pass questions 9 and 10 both reports say the same
  pub reports : BytesLength b → LogFormed (rows_of b) → BothReports (rows_of b) number
