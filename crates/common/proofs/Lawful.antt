-- What a register has to show of its rules, and of its telling in the book, for all that is proved once of both registers' calls.
use Prim.Native.Nat.{ℕ, ◌^◌, ◌≤◌, ◌<◌}
use mathlib.Core.Path.{◌≡◌}
use mathlib.Core.List.{List, [], ◌++◌}
use mathlib.Core.Bool.{true, false, not}
use lib.ListN.{length}
use Rattle.common.specs.declared.Writer.{Writer}
use Rattle.common.specs.declared.Reader.{Reader}
use Rattle.common.specs.Effects.{OneWord, AtMostOne}
use Rattle.common.specs.State.{as_counted, writer_begins, reader_begins, retires, value_in}
use Rattle.common.specs.Rules.{WriteStep, ReadStep, Rules}
use Rattle.common.specs.SetUp.{fresh_writer, fresh_reader}
use Rattle.common.specs.Book.{Operation, idle, open_with, is_open, Turn, Telling}

-- of the rules
pub record Lawful (R : Rules) : Type 0 where
  -- a processor that passes question 4 passes it again
  pub writer_turn : (n : ℕ) (w : Writer) (t : List ℕ) → 1 ≤ n → n ≤ 16 → R.writer_ok n w ≡ true → w.active ≡ true
      → R.writer_ok n (R.write_step n w t).writer ≡ true
  pub reader_turn : (n p : ℕ) (r : Reader) (t : List ℕ) → 1 ≤ n → n ≤ 16 → R.reader_ok n r ≡ true → r.active ≡ true
      → R.reader_ok n (R.read_step n p r t).reader ≡ true
  pub writer_begins_lem : (n v : ℕ) (w : Writer) → 1 ≤ n → R.writer_ok n w ≡ true → R.may_write w ≡ true → R.writer_ok n (writer_begins w v) ≡ true
  pub reader_begins_lem : (n : ℕ) (r : Reader) → 1 ≤ n → R.reader_ok n r ≡ true → R.reader_ok n (reader_begins r) ≡ true
  -- and a reader that is retired does
  pub reader_retires : (n : ℕ) (r : Reader) → R.reader_ok n r ≡ true → R.reader_ok n (as_counted (retires r)) ≡ true
  -- a sub-step retires none
  pub retired_stays : (n p : ℕ) (r : Reader) (t : List ℕ) → (R.read_step n p r t).reader.retired ≡ r.retired
  pub fresh_writer_lem : (n fresh : ℕ) → R.writer_ok n (fresh_writer fresh) ≡ true
  pub fresh_reader_lem : (n : ℕ) → R.reader_ok n fresh_reader ≡ true
  -- a sub-step sets at most one cell
  pub write_cell : (n : ℕ) (w : Writer) (t : List ℕ) → 1 ≤ n → R.writer_ok n w ≡ true → w.active ≡ true
      → AtMostOne (R.cells n) t (R.write_step n w t).table
  pub read_cell : (n p : ℕ) (r : Reader) (t : List ℕ) → 1 ≤ p → p ≤ n → R.reader_ok n r ≡ true → r.active ≡ true
      → AtMostOne (R.cells n) t (R.read_step n p r t).table
  pub fresh_length : (n v fresh : ℕ) → 1 ≤ n → length (R.fresh_cells n v fresh) ≡ R.cells n

-- of where its cells stand, with n readers: one word a sub-step, and no cell of two processors
pub record Wired (R : Rules) (place : ℕ → ℕ → ℕ → ℕ) (Has : ℕ → ℕ → ℕ → Type 0) : Type 0 where
  pub one_owner : (n i j k m : ℕ) → Has n i j → Has n k m → place n i j ≡ place n k m → i ≡ k
  pub write_word : (n : ℕ) (w : Writer) → 1 ≤ n → R.writer_ok n w ≡ true → w.active ≡ true
      → OneWord (place n) (Has n) 0 (λ t. (R.write_step n w t).writer) (λ t. (R.write_step n w t).table)
  pub read_word : (n p : ℕ) (r : Reader) → 1 ≤ p → p ≤ n → R.reader_ok n r ≡ true → r.active ≡ true
      → OneWord (place n) (Has n) p (λ t. (R.read_step n p r t).reader) (λ t. (R.read_step n p r t).table)

-- of both: the writer, and a reader, stand for a stamp and an operation of the book
module _ {Stamp Cell : Type 0} (R : Rules) (B : Telling Stamp Cell) (WIs : ℕ → Writer → Stamp → Operation Cell → Type 0)
    (RIs : ℕ → Reader → Stamp → Operation Cell → Type 0) where
  -- sub-steps of both; X: the cells behind the book's
  pub record WTurnRel (n : ℕ) (X : List ℕ) (q : WriteStep) (x : Turn Stamp Cell) : Type 0 where
    pub table_is : q.table ≡ x.table ++ X
    pub size_is : length x.table ≡ R.cells n
    pub is : WIs n q.writer x.stamp x.op

  pub record RTurnRel (n : ℕ) (X : List ℕ) (q : ReadStep) (x : Turn Stamp Cell) : Type 0 where
    pub table_is : q.table ≡ x.table ++ X
    pub size_is : length x.table ≡ R.cells n
    pub is : RIs n q.reader x.stamp x.op
    pub value_is : is_open x.op ≡ false → value_in q.reader.result ≡ x.value

  pub record Simulates : Type 0 where
    pub open_w : (n : ℕ) (w : Writer) (st : Stamp) (q : Operation Cell) → WIs n w st q → w.active ≡ is_open q
    pub open_r : (n : ℕ) (r : Reader) (st : Stamp) (q : Operation Cell) → RIs n r st q → r.active ≡ is_open q
    pub moved_w : (n : ℕ) (w : Writer) (st : Stamp) (v m : ℕ) (cells : List Cell) → WIs n w st (open_with v m cells) → w.moved ≡ m
    pub moved_r : (n : ℕ) (r : Reader) (st : Stamp) (v m : ℕ) (cells : List Cell) → RIs n r st (open_with v m cells) → r.moved ≡ m
    pub spent_is : (n : ℕ) (w : Writer) (st : Stamp) (q : Operation Cell) → WIs n w st q → B.spent st ≡ not (R.may_write w)
    pub begin_w : (n v : ℕ) (w : Writer) (st : Stamp) → 1 ≤ n → WIs n w st idle → R.may_write w ≡ true
        → WIs n (writer_begins w v) st (open_with v 0 [])
    pub begin_r : (n : ℕ) (r : Reader) (st : Stamp) → 1 ≤ n → RIs n r st idle → RIs n (reader_begins r) st (open_with 0 0 [])
    pub retire_r : (n : ℕ) (r : Reader) (st : Stamp) (q : Operation Cell) → RIs n r st q → RIs n (retires r) st q
    pub turn_w : (n : ℕ) → 1 ≤ n → n ≤ 16 → (T X : List ℕ) → length T ≡ R.cells n → (w : Writer) (st : Stamp) (v m : ℕ) (cells : List Cell)
        → R.writer_ok n w ≡ true → WIs n w st (open_with v m cells)
        → WTurnRel n X (R.write_step n w (T ++ X)) (B.write_turn n T st v m cells)
    pub turn_r : (n p : ℕ) → n ≤ 16 → 1 ≤ p → p ≤ n → (T X : List ℕ) → length T ≡ R.cells n → (r : Reader) (st : Stamp) (v m : ℕ)
        (cells : List Cell) → R.reader_ok n r ≡ true → RIs n r st (open_with v m cells)
        → RTurnRel n X (R.read_step n p r (T ++ X)) (B.read_turn n p T st m cells)
    -- a write's end row has value 0
    pub write_value : (n : ℕ) (t : List ℕ) (st : Stamp) (v m : ℕ) (cells : List Cell) → (B.write_turn n t st v m cells).value ≡ 0
    pub fresh_w : (n fresh : ℕ) → fresh < 2 ^ 32 → WIs n (fresh_writer fresh) (B.fresh_stamp fresh 0) idle
    pub fresh_r : (n fresh p : ℕ) → 1 ≤ p → RIs n fresh_reader (B.fresh_stamp fresh p) idle
    pub fresh_table_lem : (n v fresh : ℕ) → 1 ≤ n → R.fresh_cells n v fresh ≡ B.fresh_table n v fresh
