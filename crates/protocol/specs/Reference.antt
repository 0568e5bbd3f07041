-- How the first register's sub-steps go in its book (common/Book), told by the cells that each operation has read.
use Rattle.std.specs.Prelude.{ℕ, zero, suc, ◌+◌, ◌-◌, ◌*◌, List, [], ◌∷◌, ◌++◌, Bool, false, not, ◌&&◌, ◌||◌, length, get_or, replicate, ltb, leb, eqb}
use Rattle.words.specs.declared.stamp.Stamp.{Stamp}
use Rattle.words.specs.declared.cell.Cell.{Cell}
use Rattle.words.specs.Choice.{pick}
use Rattle.words.specs.Stamp.{none, is_none}
use Rattle.words.specs.Cell.{pack_cell}
use Rattle.common.specs.Book as Book
use Rattle.common.specs.Book.{idle, open_with, Telling}
use Rattle.protocol.specs.Table.{view, store}
use Rattle.words.specs.Index.{other}

abbrev pub Operation : Type 0
Operation = Book.Operation Cell

abbrev pub Turn : Type 0
Turn = Book.Turn Stamp Cell

-- t is in the list
unfoldable pub is_in : ℕ → List ℕ → Bool
is_in t [] = false
is_in t (x ∷ b) = eqb t x || is_in t b

-- the first of t, t + 1, .. that is not in it, of k + 1 of them
unfoldable pub first_free : List ℕ → ℕ → ℕ → ℕ
first_free b t zero = t
first_free b t (suc k) = pick (is_in t b) (first_free b (suc t) k) t

-- the ticket rule: "the smallest unbarred one above the writer's cur and up to 3n+2, and if there is none above, the smallest unbarred"
unfoldable pub new_ticket : ℕ → ℕ → List ℕ → ℕ
new_ticket n cur b =
    let t = first_free b (suc cur) (3 * n + 2 - cur) in
    pick (leb t (3 * n + 2)) t (first_free b 0 (length b))

-- "Barred are the prev, announced cur and announced prev of each, and the writer's own cur and prev."
unfoldable pub named_tickets : Stamp → List Cell → List ℕ
named_tickets s [] = s.cur ∷ s.prev ∷ []
named_tickets s (c ∷ cs) = c.stamp.prev ∷ c.announced.cur ∷ c.announced.prev ∷ named_tickets s cs

-- "None bars nothing."
unfoldable pub without_none : List ℕ → List ℕ
without_none [] = []
without_none (t ∷ b) = pick (eqb t 63) (without_none b) (t ∷ without_none b)

unfoldable pub excluded_tickets : Stamp → List Cell → List ℕ
excluded_tickets s cells = without_none (named_tickets s cells)

-- the ticket of a write behind the one with stamp s, by the cells it has read
abbrev pub ticket_after : ℕ → Stamp → List Cell → ℕ
ticket_after n s cells = new_ticket n s.cur (excluded_tickets s cells)

-- "New stamp: (that ticket, old cur)."
abbrev pub stamp_after : ℕ → Stamp → List Cell → Stamp
stamp_after n s cells = record { cur = ticket_after n s cells; prev = s.cur }

-- "Sub-steps 1..n read the readers' cells to the writer, readers 1..n."
abbrev pub cell_read : ℕ → List ℕ → ℕ → Cell
cell_read n t m = view n t (m + 1) 0

-- "Sub-steps 1..n read the readers' cells to the writer", "Sub-steps n+1..2n store v with the new stamp to readers 1..n",
-- "A write ends at its sub-step 2n."
unfoldable pub write_turn : ℕ → List ℕ → Stamp → ℕ → ℕ → List Cell → Turn
write_turn n t s v m cells =
    let t' = store n t 0 (m - n + 1) (record { value = v; stamp = stamp_after n s cells; announced = none }) in
    pick (ltb m n)
    (record { op = open_with v (m + 1) (cells ++ (cell_read n t m ∷ [])); stamp = s; table = t; value = 0 })
    (pick (ltb (m + 1) (2 * n)) (record { op = open_with v (m + 1) cells; stamp = s; table = t'; value = 0 })
    (record { op = idle; stamp = stamp_after n s cells; table = t'; value = 0 }))

-- a cell that shows nothing
abbrev pub void : Cell
void = record { value = 0; stamp = none; announced = none }

-- the k-th cell that a read has read; void where there is none
abbrev pub nth : List Cell → ℕ → Cell
nth cells k = get_or cells k void

-- equal stamps
abbrev pub alike : Cell → Cell → Bool
alike x y = eqb x.stamp.cur y.stamp.cur && eqb x.stamp.prev y.stamp.prev

-- the first of r cells from place k on whose prev is t; else d
unfoldable pub first_with : List Cell → ℕ → Cell → ℕ → ℕ → Cell
first_with cells t d k zero = d
first_with cells t d k (suc r) =
    pick (eqb (nth cells k).stamp.prev t) (nth cells k) (first_with cells t d (suc k) r)

-- The cells of an attempt stand from place a on: the first look, the second, the other readers' n - 1, the third.
-- "All three looks have equal stamps"
abbrev pub agree : ℕ → List Cell → ℕ → Bool
agree n cells a = alike (nth cells a) (nth cells (a + 1)) && alike (nth cells a) (nth cells (a + (n + 1)))

-- a read's value and stamp
pub record Result : Type 0 where
  pub value : ℕ
  pub stamp : Stamp

-- "result is the first of the other readers' cells whose prev equals the third look's cur, with its reading and stamp; if there is
-- none, the third look's"; "On the second, the result is the second attempt's first look's reading, with stamp none."
unfoldable pub result_of : ℕ → List Cell → ℕ → Result
result_of n cells a =
    let third = nth cells (a + (n + 1)) in
    let found = first_with cells third.stamp.cur third (a + 2) (n - 1) in
    pick (agree n cells a) (record { value = found.value; stamp = found.stamp })
    (record { value = (nth cells a).value; stamp = none })

-- "Otherwise, on the first attempt, a second attempt": the first is over, and its looks were not equal
abbrev pub failed : ℕ → ℕ → List Cell → Bool
failed n m cells = leb (n + 3) m && not (agree n cells 0)

-- "store that stamp as announced in the own cell to the writer, beside the reader's own stamp"
abbrev pub announcement : Stamp → Cell → Cell
announcement s look = record { value = 0; stamp = s; announced = look.stamp }

-- a sub-step of reader p that reads the cell from q, or stores one to q
abbrev pub reads_from : ℕ → ℕ → List ℕ → Stamp → ℕ → List Cell → ℕ → Turn
reads_from n p t s m cells q =
    record { op = open_with 0 (m + 1) (cells ++ (view n t q p ∷ [])); stamp = s; table = t; value = 0 }

abbrev pub stores_to : ℕ → ℕ → List ℕ → Stamp → ℕ → List Cell → ℕ → Cell → Turn
stores_to n p t s m cells q c = record { op = open_with 0 (m + 1) cells; stamp = s; table = store n t p q c; value = 0 }

-- sub-step l, from 0, of the attempt whose cells stand from place a on: "read the writer's cell (first look); store that stamp as
-- announced; read the writer's cell (second look); read the other readers' cells to i, in rising order; read the writer's cell (third
-- look)"
unfoldable pub attempt_turn : ℕ → ℕ → List ℕ → Stamp → ℕ → List Cell → ℕ → ℕ → Turn
attempt_turn n p t s m cells l a =
    pick (eqb l 0) (reads_from n p t s m cells 0)
    (pick (eqb l 1) (stores_to n p t s m cells 0 (announcement s (nth cells a)))
    (pick (eqb l 2) (reads_from n p t s m cells 0)
    (pick (ltb l (n + 2)) (reads_from n p t s m cells (other p (l - 3))) (reads_from n p t s m cells 0))))

-- the cell that shows a result to another reader: "the result (for stamp none, reading 0)"
abbrev pub shown : Result → Cell
shown x = record {
  value = pick (is_none x.stamp) 0 x.value;
  stamp = x.stamp;
  announced = none;
}

-- store k, from 0, of the result: to the other readers in rising order, "and last of all to the writer reading 0, the result's
-- stamp, announced none. The read ends there."
unfoldable pub result_turn : ℕ → ℕ → List ℕ → Stamp → ℕ → List Cell → ℕ → Result → Turn
result_turn n p t s m cells k x =
    pick (ltb (k + 1) n) (stores_to n p t s m cells (other p k) (shown x))
    (record {
      op = idle;
      stamp = x.stamp;
      table = store n t p 0 (record { value = 0; stamp = x.stamp; announced = none });
      value = x.value;
    })

-- "One attempt has n+3 sub-steps", "Otherwise, on the first attempt, a second attempt", "Then n sub-steps store"
unfoldable pub read_turn : ℕ → ℕ → List ℕ → Stamp → ℕ → List Cell → Turn
read_turn n p t s m cells =
    let a = pick (failed n m cells) (n + 2) 0 in
    let l = m - pick (failed n m cells) (n + 3) 0 in
    pick (ltb l (n + 3)) (attempt_turn n p t s m cells l a) (result_turn n p t s m cells (l - (n + 3)) (result_of n cells a))

-- "Fresh: cells from the writer hold the start reading and stamp (0,1). All others hold reading 0 and stamp none. Announced fields
-- are 63 everywhere."
abbrev pub start_cell : ℕ → Cell
start_cell v = record { value = v; stamp = record { cur = 0; prev = 1 }; announced = none }

unfoldable pub fresh_table : ℕ → ℕ → List ℕ
fresh_table n v = replicate n (pack_cell (start_cell v)) ++ replicate (n * n) (pack_cell void)

abbrev pub fresh_stamp : ℕ → Stamp
fresh_stamp zero = record { cur = 0; prev = 1 }
fresh_stamp (suc i) = none

-- the first register's book
abbrev pub book : Telling Stamp Cell
book = record {
  fresh_table = λ n v _. fresh_table n v;
  fresh_stamp = λ _. fresh_stamp;
  spent = λ _. false;
  write_turn = write_turn;
  read_turn = read_turn;
}

abbrev pub Model : Type 0
Model = Book.Model Stamp Cell

abbrev pub Told : Type 0
Told = Book.Told Stamp Cell
