-- A session: what is done, and what is to come of it.
use Rattle.std.specs.Prelude.{ℕ, ◌+◌, ◌-◌, Bool, true, false, not, ◌&&◌, List, [], ◌∷◌, eqb, ltb, length, take}
use Rattle.words.specs.declared.cell.Cell.{Cell}
use Rattle.words.specs.declared.row.Row.{Row}
use Rattle.words.specs.declared.stamp.Stamp.{Stamp}
use Rattle.words.specs.Choice.{pick}
use Rattle.words.specs.Stamp.{same}
use Rattle.words.specs.Cell.{pack_cell, unpack_cell}
use Rattle.words.specs.Row.{pack_row, unpack_row}
use Rattle.history.specs.History.{history_of}
use Rattle.history.specs.Chosen.{chosen, reads_from, regular, uninverted}
use Rattle.judging.specs.Answer.{answer_of, order_of, bytes_number}
use Rattle.common.specs.declared.Writer.{Writer}
use Rattle.common.specs.declared.State.{State}
use Rattle.common.specs.Answers.{Answer, Reply, reply}
use Rattle.common.specs.declared.calls.Call.{Call}
use Rattle.common.specs.Head.{head_with}
use Rattle.common.specs.Rules.{Rules}
use Rattle.common.specs.SetUp.{set_up_of}
use Rattle.common.specs.Register.{call_of, run_of, ran_from}
use Rattle.common.specs.Book.{Telling, Model, open_count, told, fresh_model, kept}
use Rattle.protocol.specs.Tickets.{with_ticket}
use Rattle.protocol.specs.Write.{ticket_of}
use Rattle.protocol.specs.Rules.{ticket_rules}
use Rattle.protocol.specs.Reference.{new_ticket, book as ticket_book}
use Rattle.counted.specs.declared.Cell.{Cell as CountedCell}
use Rattle.counted.specs.Cell.{pack_cell as pack_counted, unpack_cell as unpack_counted}
use Rattle.counted.specs.Rules.{counted_rules}
use Rattle.counted.specs.Reference.{book as counted_book}
use Rattle.sessions.specs.Lent.{lent, paper}

abbrev pub stamp : ℕ → ℕ → Stamp
stamp c p = record { cur = c; prev = p }

-- the first register; the counted one, with the fresh stamp that is handed over
pub data Register : Type 0 where
  tickets : Register
  counting : (fresh : ℕ) → Register

pub data Session : Type 0 where
  -- a cell and its word
  cell : Cell → ℕ → Session
  -- a cell of the counted register and its word
  counted_cell : CountedCell → ℕ → Session
  -- a row of the log and its word
  row : Row → ℕ → Session
  -- a log that is judged, with the places for its order; the answer's number and values, and the places after the call
  judged : List ℕ → List ℕ → ℕ → List ℕ → List ℕ → Session
  -- a log as bytes that is judged, with its number
  judged_bytes : (bytes : List ℕ) (number : ℕ) → Session
  -- a log that is tried with a write that each of its reads may stand for, by begin rows (report CS-R8704): whether it is regular by this
  -- choice, and whether no two reads are inverted
  tried : (log : List ℕ) (choice : List (ℕ × ℕ)) (isRegular isUninverted : Bool) → Session
  -- the new ticket of a write in a register of n readers, in a state that is handed in: the writer's own stamp, and the tickets that the
  -- cells it has read bar
  taken : (n : ℕ) (own : Stamp) (barred : List ℕ) (ticket : ℕ) → Session
  -- a set-up of n readers with start reading v on a lent table and log, refused by its number
  denied : (g : Register) (n v : ℕ) (table log : List ℕ) (number : ℕ) → Session
  -- an accepted one and the calls behind it; their answers as numbers, and the whole table and log after the last
  run : (g : Register) (n v : ℕ) (table log : List ℕ) (calls : List Call) (answers cells rows : List ℕ) → Session
  -- calls behind an accepted set-up of n readers, on a table that is handed in; their answers, and the table and the used rows after the last
  found : (n : ℕ) (table : List ℕ) (calls : List Call) (answers cells rows : List ℕ) → Session
  -- the number of open operations behind an accepted set-up, with a log of so many rows, and behind each of the calls
  opens : (g : Register) (n rows : ℕ) (calls : List Call) (numbers : List ℕ) → Session
  -- the state behind the calls, handed on with this number of open operations: the answer to one call more
  handed : (g : Register) (n rows : ℕ) (calls : List Call) (number : ℕ) (last : Call) (answer : ℕ) → Session
  -- a state that is handed in, with a table of so many cells and a log of so many rows: the answer to a call
  asked : (g : Register) (s : State) (cells rows : ℕ) (c : Call) (answer : ℕ) → Session

abbrev same_cell : Cell → Cell → Bool
same_cell a b = eqb a.value b.value && (same a.stamp b.stamp && same a.announced b.announced)

abbrev same_row : Row → Row → Bool
same_row a b = eqb a.kind b.kind && (eqb a.processor b.processor && eqb a.value b.value)

abbrev same_list : List ℕ → List ℕ → Bool
same_list [] [] = true
same_list [] (y ∷ ys) = false
same_list (x ∷ xs) [] = false
same_list (x ∷ xs) (y ∷ ys) = eqb x y && same_list xs ys

abbrev same_bool : Bool → Bool → Bool
same_bool a b = pick a b (not b)

-- a set of tickets
abbrev set_of : List ℕ → ℕ
set_of [] = 0
set_of (t ∷ rest) = with_ticket (set_of rest) t

-- a write before its first store
abbrev before_store : ℕ → Stamp → List ℕ → Writer
before_store n own barred = record {
  active = true;
  moved = n;
  value = 0;
  excluded = set_of barred;
  ticket = 63;
  stamp = own;
  count = 0;
}

-- an answer as the rows write it: 0 accepted, m for sub-step m, 100 + k for refusal k
abbrev written : ℕ → Reply
written k =
    pick (eqb k 0) (record { number = 0; values = [] })
    (pick (ltb k 100) (record { number = 0; values = k ∷ [] }) (record { number = k - 100; values = [] }))

abbrev answered : Answer → ℕ → Bool
answered a k = eqb (reply a).number (written k).number && same_list (reply a).values (written k).values

abbrev all_answered : List Answer → List ℕ → Bool
all_answered [] [] = true
all_answered [] (k ∷ ks) = false
all_answered (a ∷ rest) [] = false
all_answered (a ∷ rest) (k ∷ ks) = answered a k && all_answered rest ks

abbrev rules_for : Register → Rules
rules_for tickets = ticket_rules
rules_for (counting fresh) = counted_rules

abbrev first_of : Register → ℕ
first_of tickets = 0
first_of (counting fresh) = fresh

-- what the definitions of the calls give: answers, table and log
unfoldable pub as_defined : Register → ℕ → ℕ → List ℕ → List ℕ → List Call → List ℕ → List ℕ → List ℕ → Bool
as_defined g n v t l calls answers cells rows =
    let r = ran_from (rules_for g) n v (first_of g) t l calls in
    all_answered r.answers answers && (same_list r.table cells && same_list r.log rows)

-- what a book gives: answers, its cells and the used rows, of which there are so many
unfoldable pub in_book : {Stamp Cell : Type 0} → Telling Stamp Cell → Register → ℕ → ℕ → ℕ → ℕ → List Call → List ℕ → List ℕ → List ℕ → Bool
in_book B g n v len used calls answers cells rows =
    let k = kept B n len (fresh_model B n v (first_of g)) calls in
    all_answered k.answers answers
    && (same_list k.model.table (take ((rules_for g).cells n) cells) && same_list k.model.rows (take used rows))

abbrev as_modelled : Register → ℕ → ℕ → ℕ → ℕ → List Call → List ℕ → List ℕ → List ℕ → Bool
as_modelled tickets = in_book ticket_book tickets
as_modelled (counting fresh) = in_book counted_book (counting fresh)

-- the number of open operations, from a state on, behind each call
abbrev opens_after : Rules → State → List ℕ → List ℕ → List Call → List ℕ
opens_after R s t l [] = s.head.opens ∷ []
opens_after R s t l (c ∷ rest) = let o = call_of R s t l c in s.head.opens ∷ opens_after R o.state o.table o.log rest

-- the same as the book counts them, with a log of so many rows
abbrev counts_after : {Stamp Cell : Type 0} → Telling Stamp Cell → ℕ → ℕ → Model Stamp Cell → List Call → List ℕ
counts_after B n rows b [] = open_count n b ∷ []
counts_after B n rows b (c ∷ rest) = open_count n b ∷ counts_after B n rows (told B n rows b c).model rest

abbrev counts_for : Register → ℕ → ℕ → List Call → List ℕ
counts_for tickets n rows calls = counts_after ticket_book n rows (fresh_model ticket_book n 7 0) calls
counts_for (counting fresh) n rows calls = counts_after counted_book n rows (fresh_model counted_book n 7 fresh) calls

-- the book with another table
abbrev with_table : {Stamp Cell : Type 0} → Model Stamp Cell → List ℕ → Model Stamp Cell
with_table b t = record { table = t; rows = b.rows; stamp = b.stamp; op = b.op; retired = b.retired }

-- the state with another number of open operations
abbrev with_opens : State → ℕ → State
with_opens s k = record { head = head_with s.head s.head.used k; writer = s.writer; readers = s.readers }

-- whether it comes out so, both ways where there are two
unfoldable pub holds : Session → Bool
holds (cell c w) = eqb (pack_cell c) w && same_cell (unpack_cell w) c
holds (counted_cell c w) = eqb (pack_counted c) w && (eqb (unpack_counted w).value c.value && eqb (unpack_counted w).stamp c.stamp)
holds (row r w) = eqb (pack_row r) w && same_row (unpack_row w) r
holds (judged log o n vs e) =
    let a = answer_of log (length o) in
    eqb a.number n && (same_list a.values vs && same_list (order_of log o) e)
holds (judged_bytes bytes number) = eqb (bytes_number bytes) number
holds (tried log choice isRegular isUninverted) =
    let h = history_of log in
    let f = chosen choice in
    reads_from h f && (same_bool (regular h f) isRegular && same_bool (uninverted h f) isUninverted)
holds (taken n own barred t) =
    eqb (ticket_of n (before_store n own barred)) t && eqb (new_ticket n own.cur (own.cur ∷ own.prev ∷ barred)) t
holds (denied g n v t l number) =
    let o = set_up_of (rules_for g) n v (first_of g) t l in
    answered o.answer (100 + number) && (same_list o.table t && same_list o.log l)
holds (run g n v t l calls answers cells rows) =
    let used = (ran_from (rules_for g) n v (first_of g) t l calls).state.head.used in
    answered (set_up_of (rules_for g) n v (first_of g) t l).answer 0
    && (as_defined g n v t l calls answers cells rows && as_modelled g n v (length l) used calls answers cells rows)
holds (found n t calls answers cells rows) =
    let o = set_up_of ticket_rules n 7 0 t (paper 16) in
    let r = run_of ticket_rules o.state t o.log calls in
    let k = kept ticket_book n 16 (with_table (fresh_model ticket_book n 7 0) t) calls in
    all_answered r.answers answers
    && (same_list r.table cells && same_list (take r.state.head.used r.log) rows)
    && (all_answered k.answers answers && (same_list k.model.table cells && same_list k.model.rows rows))
holds (opens g n rows calls numbers) =
    let R = rules_for g in
    let o = set_up_of R n 7 (first_of g) (lent (R.cells n)) (paper rows) in
    same_list (opens_after R o.state o.table o.log calls) numbers && same_list (counts_for g n rows calls) numbers
holds (handed g n rows calls number last answer) =
    let R = rules_for g in
    let r = ran_from R n 7 (first_of g) (lent (R.cells n)) (paper rows) calls in
    answered (call_of R (with_opens r.state number) r.table r.log last).answer answer
holds (asked g s cells rows c answer) = answered (call_of (rules_for g) s (lent cells) (paper rows) c).answer answer

abbrev pub all : List Session → Bool
all [] = true
all (s ∷ ss) = holds s && all ss
