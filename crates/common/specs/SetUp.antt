-- Set-up, and what a call gives and leaves.
use Rattle.std.specs.Prelude.{ℕ, List, ◌++◌, Bool, false, ◌&&◌, length, set, drop, replicate, leb, Ok, Err}
use Rattle.words.specs.Choice.{pick}
use Rattle.words.specs.Stamp.{none}
use Rattle.words.specs.Row.{row_of}
use Rattle.common.specs.declared.Writer.{Writer}
use Rattle.common.specs.declared.Reader.{Reader}
use Rattle.common.specs.declared.State.{State}
use Rattle.common.specs.Answers.{Answer}
use Rattle.common.specs.declared.Done.TheVariants.{Accepted}
use Rattle.common.specs.declared.Refusal.{Refusal}
use Rattle.common.specs.declared.Refusal.TheVariants.{Readers, Cells, Rows}
use Rattle.common.specs.Rules.{Rules}

pub record Outcome : Type 0 where
  pub answer : Answer
  pub state : State
  pub table : List ℕ
  pub log : List ℕ

-- "A no gives its number and alters nothing."
abbrev pub refused : Refusal → State → List ℕ → List ℕ → Outcome
refused r s t l = record { answer = Err r; state = s; table = t; log = l }

-- "the writer's stamp, at first (0,1)"; of the counted register "The fresh stamp is handed over at set-up"
abbrev pub fresh_writer : ℕ → Writer
fresh_writer fresh = record {
  active = false;
  moved = 0;
  value = 0;
  excluded = 0;
  ticket = 63;
  stamp = record { cur = 0; prev = 1 };
  count = fresh;
}

-- "No reader has a stamp of its own yet."
abbrev pub fresh_reader : Reader
fresh_reader = record {
  retired = false;
  active = false;
  second = false;
  moved = 0;
  stamp = none;
  look = 0;
  agree = false;
  found = false;
  result = 0;
}

abbrev pub fresh_state : Bool → ℕ → ℕ → ℕ → State
fresh_state counted n fresh rows = record {
  head = record { counted = counted; opens = 0; n = n; rows = rows; used = 1 };
  writer = fresh_writer fresh;
  readers = replicate 16 fresh_reader;
}

-- the state of a refused set-up: it has no readers, and passes question 4 nowhere
abbrev pub no_state : Bool → State
no_state counted = fresh_state counted 0 0 0

-- "Row 0: kind 5, n, start reading."
abbrev pub start_row : ℕ → ℕ → ℕ
start_row n v = row_of 5 n v

-- "are there 1 to 16 readers (1)?"
abbrev pub readers_fit : ℕ → Bool
readers_fit n = leb 1 n && leb n 16

-- "Is the log 3 to 4,096 rows (3)?"
abbrev pub rows_fit : ℕ → Bool
rows_fit rows = leb 3 rows && leb rows 4096

-- These, and between them "At least n²+n cells (2)?" "Set-up writes row 0 only". Of the counted register "questions 2 and 4 take n² cells".
unfoldable pub set_up_of : Rules → ℕ → ℕ → ℕ → List ℕ → List ℕ → Outcome
set_up_of R n v fresh t l =
    pick (readers_fit n)
    (pick (leb (R.cells n) (length t))
    (pick (rows_fit (length l))
    (record {
      answer = Ok Accepted;
      state = fresh_state R.counted n fresh (length l);
      table = R.fresh_cells n v fresh ++ drop (R.cells n) t;
      log = set l 0 (start_row n v);
    })
    (refused Rows (no_state R.counted) t l))
    (refused Cells (no_state R.counted) t l))
    (refused Readers (no_state R.counted) t l)
