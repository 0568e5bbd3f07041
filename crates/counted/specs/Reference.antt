-- How the counted register's sub-steps go in its book (common/Book), told by the cells that each operation has read. Its stamps are
-- numbers.
use Rattle.std.specs.Prelude.{ℕ, ◌+◌, ◌-◌, ◌*◌, max, List, [], ◌∷◌, ◌++◌, get_or, replicate, ltb, eqb}
use Rattle.words.specs.Choice.{pick}
use Rattle.words.specs.Index.{other}
use Rattle.common.specs.Book as Book
use Rattle.common.specs.Book.{idle, open_with, Telling}
use Rattle.counted.specs.declared.Cell.{Cell}
use Rattle.counted.specs.Cell.{pack_cell}
use Rattle.counted.specs.Table.{view, store}
use Rattle.counted.specs.State.{last_stamp}

abbrev pub Operation : Type 0
Operation = Book.Operation Cell

abbrev pub Turn : Type 0
Turn = Book.Turn ℕ Cell

-- "A write adds 1 to the stamp and takes n sub-steps."
unfoldable pub write_turn : ℕ → List ℕ → ℕ → ℕ → ℕ → List Cell → Turn
write_turn n t s v m cells =
    let t' = store n t 0 (m + 1) (record { value = v; stamp = s + 1 }) in
    pick (ltb (m + 1) n) (record { op = open_with v (m + 1) cells; stamp = s; table = t'; value = 0 })
    (record { op = idle; stamp = s + 1; table = t'; value = 0 })

-- a cell that shows nothing
abbrev pub void : Cell
void = record { value = 0; stamp = 0 }

-- the k-th cell that a read has read; void where there is none
abbrev pub nth : List Cell → ℕ → Cell
nth cells k = get_or cells k void

-- which of them it finds at the writer
abbrev pub at_writer : ℕ → ℕ
at_writer n = n - 1

-- "the largest stamp"
unfoldable pub top_of : List Cell → ℕ
top_of [] = 0
top_of (c ∷ cs) = max c.stamp (top_of cs)

-- the first cell with stamp s; else d
unfoldable pub first_with : ℕ → Cell → List Cell → Cell
first_with s d [] = d
first_with s d (c ∷ cs) = pick (eqb c.stamp s) c (first_with s d cs)

-- "takes the largest stamp (the writer's if equal, else the lowest reader)": the cells are the other readers' in rising order and, last,
-- the writer's
unfoldable pub result_of : ℕ → List Cell → Cell
result_of n cells =
    let w = nth cells (at_writer n) in
    pick (eqb w.stamp (top_of cells)) w (first_with (top_of cells) w cells)

-- whom reader p looks at in its sub-step m, from 0: "the other readers in rising order, then at the writer"
abbrev pub looks_at : ℕ → ℕ → ℕ → ℕ
looks_at n p m = pick (ltb (m + 1) n) (other p m) 0

-- "stores it to the others and takes 2n−1 sub-steps"
unfoldable pub read_turn : ℕ → ℕ → List ℕ → ℕ → ℕ → List Cell → Turn
read_turn n p t s m cells =
    let cells' = pick (ltb m n) (cells ++ (view n t (looks_at n p m) p ∷ [])) cells in
    record {
      op = pick (ltb (m + 1) (2 * n - 1)) (open_with 0 (m + 1) cells') idle;
      stamp = s;
      table = pick (ltb m n) t (store n t p (other p (m - n)) (result_of n cells));
      value = (result_of n cells').value;
    }

-- "The fresh stamp is handed over at set-up, and stands in every cell, with the start reading in the writer's cells and 0 elsewhere."
unfoldable pub fresh_table : ℕ → ℕ → ℕ → List ℕ
fresh_table n v fresh =
    replicate n (pack_cell (record { value = v; stamp = fresh }))
    ++ replicate (n * n - n) (pack_cell (record { value = 0; stamp = fresh }))

-- the counted register's book; of its stamps only the writer's is looked at
abbrev pub book : Telling ℕ Cell
book = record {
  fresh_table = fresh_table;
  fresh_stamp = λ fresh _. fresh;
  spent = λ s. eqb s last_stamp;
  write_turn = write_turn;
  read_turn = read_turn;
}

abbrev pub Model : Type 0
Model = Book.Model ℕ Cell

abbrev pub Told : Type 0
Told = Book.Told ℕ Cell
