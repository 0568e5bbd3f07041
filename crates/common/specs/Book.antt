-- The reference model: document 01's book, "fed n, the start reading, the log's length and the calls", and for the counted register the
-- fresh stamp. It tells the rules a second time: what it keeps of an operation are the cells that it has read. How a sub-step goes, each
-- register tells in words of its own (Telling); with the calls' definitions the book shares packing, places, calls and answers.
use Rattle.std.specs.Prelude.{ℕ, suc, ◌+◌, List, [], ◌∷◌, ◌++◌, Bool, true, false, not, ◌&&◌, length, leb, eqb}
use Rattle.std.specs.Prelude.{Ok, Err}
use Rattle.words.specs.Choice.{pick}
use Rattle.words.specs.Update.{upd}
use Rattle.words.specs.Counting.{one, count}
use Rattle.words.specs.Row.{row_of}
use Rattle.common.specs.Calls.{Call, write, read, step, retire}
use Rattle.common.specs.Answers.{Answer}
use Rattle.common.specs.declared.Done.TheVariants.{Accepted, Moved}
use Rattle.common.specs.declared.Refusal.{Refusal}
use Rattle.common.specs.declared.Refusal.TheVariants.{Processor, Retired, Busy, Full, Idle, Spent}

-- "each processor idle, or open with a write's reading, its words moved and the cells it read"
pub data Operation (Cell : Type 0) : Type 0 where
  idle : Operation Cell
  open_with : (v m : ℕ) (cells : List Cell) → Operation Cell

abbrev pub is_open : {Cell : Type 0} → Operation Cell → Bool
is_open idle = false
is_open (open_with v m cells) = true

-- "a fresh table; a log with row 0; the writer's stamp ..; each reader's stamp"; (02) "the book keeps that set", of retired readers
pub record Model (Stamp Cell : Type 0) : Type 0 where
  pub table : List ℕ
  pub rows : List ℕ
  pub stamp : ℕ → Stamp
  pub op : ℕ → Operation Cell
  pub retired : ℕ → Bool

-- what an operation's sub-step leaves: the operation, the processor's stamp, the table, and the value of the end row
pub record Turn (Stamp Cell : Type 0) : Type 0 where
  pub op : Operation Cell
  pub stamp : Stamp
  pub table : List ℕ
  pub value : ℕ

-- a register's own telling
pub record Telling (Stamp Cell : Type 0) : Type 0 where
  -- the fresh table of n readers, of a start reading and a fresh stamp; the processors' fresh stamps
  pub fresh_table : ℕ → ℕ → ℕ → List ℕ
  pub fresh_stamp : ℕ → ℕ → Stamp
  -- whether the writer's stamp is the last
  pub spent : Stamp → Bool
  -- a sub-step of a write with n readers: the table, the writer's stamp, the reading, the words moved and the cells read
  pub write_turn : ℕ → List ℕ → Stamp → ℕ → ℕ → List Cell → Turn Stamp Cell
  -- a sub-step of reader p's read: the table, its stamp, the words moved and the cells read
  pub read_turn : ℕ → ℕ → List ℕ → Stamp → ℕ → List Cell → Turn Stamp Cell

-- a call's answer, and the book behind it
pub record Told (Stamp Cell : Type 0) : Type 0 where
  pub answer : Answer
  pub model : Model Stamp Cell

-- a list of calls: the answers, and the book at its end
pub record Kept (Stamp Cell : Type 0) : Type 0 where
  pub answers : List Answer
  pub model : Model Stamp Cell

module _ {Stamp Cell : Type 0} where
  -- (02) "a retired reader's operation is open there no longer"
  abbrev pub open_at : Model Stamp Cell → ℕ → Bool
  open_at b p = not (b.retired p) && is_open (b.op p)

  abbrev pub open_count : ℕ → Model Stamp Cell → ℕ
  open_count n b = one (is_open (b.op 0)) + count n (λ i. open_at b (suc i))

  -- "A refused call changes nothing."
  abbrev pub declined : Refusal → Model Stamp Cell → Told Stamp Cell
  declined r b = record { answer = Err r; model = b }

  -- "A begin opens its processor with no word moved and adds its row."
  abbrev pub begun : Model Stamp Cell → ℕ → ℕ → ℕ → Told Stamp Cell
  begun b p kind v = record {
    answer = Ok Accepted;
    model = record b { rows = b.rows ++ (row_of kind p v ∷ []); op = upd b.op p (open_with v 0 []) };
  }

  -- question 5, (02) "and asks 13 in its place", and then x
  abbrev pub of_processor : ℕ → Model Stamp Cell → ℕ → ℕ → Told Stamp Cell → Told Stamp Cell
  of_processor n b least p x = pick (leb least p && leb p n) (pick (b.retired p) (declined Retired b) x) (declined Processor b)

  -- questions 6 and 7, and then x. Of len rows, those free are len less the book's.
  unfoldable pub begins : ℕ → ℕ → Model Stamp Cell → ℕ → Told Stamp Cell → Told Stamp Cell
  begins n len b p x =
      pick (is_open (b.op p)) (declined Busy b)
      (pick (leb (length b.rows + open_count n b + 2) len) x (declined Full b))

  -- "The end row is added, a read's with its result by the rules; the write's or result's stamp becomes the processor's own; the
  -- processor is idle."
  abbrev pub entered : Model Stamp Cell → ℕ → ℕ → Turn Stamp Cell → Model Stamp Cell
  entered b p kind x = record {
    table = x.table;
    rows = pick (is_open x.op) b.rows (b.rows ++ (row_of kind p x.value ∷ []));
    stamp = upd b.stamp p x.stamp;
    op = upd b.op p x.op;
    retired = b.retired;
  }

  -- (02) "Add a call that retires a reader": it is in the set, and nothing else changes
  abbrev pub withdrawn : Model Stamp Cell → ℕ → Model Stamp Cell
  withdrawn b p = record b { retired = upd b.retired p true }

module _ {Stamp Cell : Type 0} (B : Telling Stamp Cell) where
  -- "14, stamp 4,294,967,295 has been used, for a write's begin after question 7"
  abbrev pub begins_write : Model Stamp Cell → ℕ → Told Stamp Cell
  begins_write b v = pick (B.spent (b.stamp 0)) (declined Spent b) (begun b 0 1 v)

  -- "A sub-step moves that operation's next word in the book's table, by the rules above. Its number is the words moved since the
  -- begin, this one included."
  abbrev pub moves_write : ℕ → Model Stamp Cell → Operation Cell → Told Stamp Cell
  moves_write n b idle = declined Idle b
  moves_write n b (open_with v m cells) =
      record { answer = Ok (Moved (m + 1)); model = entered b 0 2 (B.write_turn n b.table (b.stamp 0) v m cells) }

  abbrev pub moves_read : ℕ → Model Stamp Cell → ℕ → Operation Cell → Told Stamp Cell
  moves_read n b p idle = declined Idle b
  moves_read n b p (open_with v m cells) =
      record { answer = Ok (Moved (m + 1)); model = entered b p 4 (B.read_turn n p b.table (b.stamp p) m cells) }

  -- "Questions 5 to 8 are asked of the book; in a list question 4 refuses nothing."; and 13 and 14
  unfoldable pub told : ℕ → ℕ → Model Stamp Cell → Call → Told Stamp Cell
  told n len b (write v) = begins n len b 0 (begins_write b v)
  told n len b (read p) = of_processor n b 1 p (begins n len b p (begun b p 3 0))
  told n len b (step p) = of_processor n b 0 p (pick (eqb p 0) (moves_write n b (b.op 0)) (moves_read n b p (b.op p)))
  told n len b (retire p) = of_processor n b 1 p (record { answer = Ok Accepted; model = withdrawn b p })

  abbrev pub fresh_model : ℕ → ℕ → ℕ → Model Stamp Cell
  fresh_model n v fresh = record {
    table = B.fresh_table n v fresh;
    rows = row_of 5 n v ∷ [];
    stamp = B.fresh_stamp fresh;
    op = λ _. idle;
    retired = λ _. false;
  }

  unfoldable pub kept : ℕ → ℕ → Model Stamp Cell → List Call → Kept Stamp Cell
  kept n len b [] = record { answers = []; model = b }
  kept n len b (c ∷ cs) =
      let o = told n len b c in
      let r = kept n len o.model cs in
      record { answers = o.answer ∷ r.answers; model = r.model }
