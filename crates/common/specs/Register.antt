-- Begins, sub-steps and retirements of a register with the rules R, with their questions in document 01's order.
use Rattle.std.specs.Prelude.{ℕ, ◌+◌, ◌-◌, List, [], ◌∷◌, length, set, eqb, Ok}
use Rattle.words.specs.Choice.{pick}
use Rattle.words.specs.Row.{row_of}
use Rattle.common.specs.declared.State.{State}
use Rattle.common.specs.Answers.{Answer}
use Rattle.common.specs.declared.Done.TheVariants.{Accepted, Moved}
use Rattle.common.specs.declared.Refusal.TheVariants.{Range, Processor, Retired, Busy, Full, Idle, Spent}
use Rattle.common.specs.Calls.{Call, write, read, step, retire}
use Rattle.common.specs.Head.{is_processor, has_room, began, stepped}
use Rattle.common.specs.State.{reader_at, is_retired, with_writer, with_reader, writer_begins, reader_begins, with_retired, value_in}
use Rattle.common.specs.Rules.{Rules, state_ok}
use Rattle.common.specs.SetUp.{Outcome, refused, set_up_of}

-- question 5; (02) "13, the reader is retired, for its begin, step or retirement, right after question 5"; and then o
abbrev pub as_processor : State → List ℕ → List ℕ → ℕ → ℕ → Outcome → Outcome
as_processor s t l least p o =
    pick (is_processor s.head least p) (pick (is_retired s p) (refused Retired s t l) o) (refused Processor s t l)

-- questions 6 and 7 of a read by reader p, which then begins
abbrev pub open_read : State → List ℕ → List ℕ → ℕ → Outcome
open_read s t l p =
    pick (reader_at s (p - 1)).active (refused Busy s t l)
    (pick (has_room s.head)
    (record {
      answer = Ok Accepted;
      state = with_reader s (p - 1) (reader_begins (reader_at s (p - 1))) (began s.head);
      table = t;
      log = set l s.head.used (row_of 3 p 0);
    })
    (refused Full s t l))

-- reader p is retired: it is in the set, its operation counts as open no longer, and nothing else changes
abbrev pub retiring : State → List ℕ → List ℕ → ℕ → Outcome
retiring s t l p = record { answer = Ok Accepted; state = with_retired s p; table = t; log = l }

module _ (R : Rules) where
  -- question 4, and then o
  abbrev pub in_range : State → List ℕ → List ℕ → Outcome → Outcome
  in_range s t l o = pick (state_ok R s (length t) (length l)) o (refused Range s t l)

  -- "A begin call adds its row": 4; the writer is a processor; "is it idle (6)?", 7, and "14, stamp 4,294,967,295 has been used, for a
  -- write's begin after question 7"
  unfoldable pub begin_write_of : State → List ℕ → List ℕ → ℕ → Outcome
  begin_write_of s t l v =
      in_range s t l
      (pick s.writer.active (refused Busy s t l)
      (pick (has_room s.head)
      (pick (R.may_write s.writer)
      (record {
        answer = Ok Accepted;
        state = with_writer s (writer_begins s.writer v) (began s.head);
        table = t;
        log = set l s.head.used (row_of 1 0 v);
      })
      (refused Spent s t l))
      (refused Full s t l)))

  unfoldable pub begin_read_of : State → List ℕ → List ℕ → ℕ → Outcome
  begin_read_of s t l p = in_range s t l (as_processor s t l 1 p (open_read s t l p))

  -- "the last sub-step adds the end". "A step tells its own sub-step number: the words this operation has moved."
  unfoldable pub step_writer : State → List ℕ → List ℕ → Outcome
  step_writer s t l =
      let q = R.write_step s.head.n s.writer t in
      record {
        answer = Ok (Moved (s.writer.moved + 1));
        state = with_writer s q.writer (stepped s.head q.writer.active);
        table = q.table;
        log = pick q.writer.active l (set l s.head.used (row_of 2 0 0));
      }

  unfoldable pub step_reader : State → List ℕ → List ℕ → ℕ → Outcome
  step_reader s t l p =
      let q = R.read_step s.head.n p (reader_at s (p - 1)) t in
      record {
        answer = Ok (Moved ((reader_at s (p - 1)).moved + 1));
        state = with_reader s (p - 1) q.reader (stepped s.head q.reader.active);
        table = q.table;
        log = pick q.reader.active l (set l s.head.used (row_of 4 p (value_in q.reader.result)));
      }

  -- "Step: has it an open operation (8)?"
  abbrev pub step_open : State → List ℕ → List ℕ → ℕ → Outcome
  step_open s t l p =
      pick (eqb p 0) (pick s.writer.active (step_writer s t l) (refused Idle s t l))
      (pick (reader_at s (p - 1)).active (step_reader s t l p) (refused Idle s t l))

  unfoldable pub step_of : State → List ℕ → List ℕ → ℕ → Outcome
  step_of s t l p = in_range s t l (as_processor s t l 0 p (step_open s t l p))

  -- (02) "Retiring passes questions 4 and 5 (readers 1..n) first, and adds no row."
  unfoldable pub retire_of : State → List ℕ → List ℕ → ℕ → Outcome
  retire_of s t l p = in_range s t l (as_processor s t l 1 p (retiring s t l p))

  unfoldable pub call_of : State → List ℕ → List ℕ → Call → Outcome
  call_of s t l (write v) = begin_write_of s t l v
  call_of s t l (read p) = begin_read_of s t l p
  call_of s t l (step p) = step_of s t l p
  call_of s t l (retire p) = retire_of s t l p

-- Lists of calls. "Each call is handed the state that the one before returned, refused or not, and the same buffers as that one left
-- them".
pub record Ran : Type 0 where
  pub answers : List Answer
  pub state : State
  pub table : List ℕ
  pub log : List ℕ

unfoldable pub run_of : Rules → State → List ℕ → List ℕ → List Call → Ran
run_of R s t l [] = record { answers = []; state = s; table = t; log = l }
run_of R s t l (c ∷ cs) =
    let o = call_of R s t l c in
    let r = run_of R o.state o.table o.log cs in
    record { answers = o.answer ∷ r.answers; state = r.state; table = r.table; log = r.log }

-- "It starts from what an accepted set-up returned and wrote"
abbrev pub ran_from : Rules → ℕ → ℕ → ℕ → List ℕ → List ℕ → List Call → Ran
ran_from R n v fresh t l cs = let o = set_up_of R n v fresh t l in run_of R o.state o.table o.log cs
