-- What a state in range gives the calls, and the calls' cases as the code takes them, for any rules.
use Prim.Native.Nat.{ℕ, ◌+◌, ◌-◌, ◌≤◌, ◌<◌}
use mathlib.Core.Path.{◌≡◌, ap, ◌∙◌}
use mathlib.Core.Logic.{◌≢◌}
use mathlib.Core.List.{List, ◌++◌}
use mathlib.Core.Bool.{Bool, true, false}
use native.Mathlib.Omega.{arith}
use lib.ListN.{length, set, drop}
use borrow.Author.Tests.{leb-true, le-leb, eq-eqb, ne_eqb}
use Rattle.words.specs.Counting.{one}
use Rattle.words.specs.Row.{row_of}
use Rattle.words.proofs.Laws.Counting.{one_low, count_low}
use Rattle.common.specs.declared.Writer.{Writer}
use Rattle.common.specs.declared.Reader.{Reader}
use Rattle.common.specs.declared.State.{State}
use Rattle.std.specs.Prelude.{Result, Ok, Err}
use Rattle.std.specs.Result.{IsErrAnd}
use Rattle.common.specs.declared.Done.TheVariants.{Accepted, Moved}
use Rattle.common.specs.declared.Refusal.{Refusal}
use Rattle.common.specs.declared.Refusal.TheVariants.{Range, Busy, Full, Idle, Spent}
use Rattle.common.specs.Answers.{Answer, reply}
use Rattle.common.specs.Head.{has_room, began, ended}
use Rattle.common.specs.State.{reader_at, is_retired, as_counted, with_writer, with_reader, writer_begins, reader_begins, value_in}
use Rattle.common.specs.Rules.{Rules, state_ok, InRange}
use Rattle.common.specs.SetUp.{Outcome, refused, fresh_state, start_row, set_up_of}
use Rattle.common.specs.Register.{begin_write_of, open_read, begin_read_of, step_writer, step_reader, step_open, step_of, retiring, retire_of}
use Rattle.common.proofs.Range.{reader_open, reader_room, writer_open, writer_room}
use Rattle.questions.specs.Asked.{asked_of, Passed}
use Rattle.steps.specs.Contract.{TableOk, write_stepped, read_stepped}
use Rattle.register.specs.Contract.{left}
use Rattle.questions.proofs.Laws.{passed, goes_on, turned_down}

-- Equal outcomes have equal replies.
pub with_reply : {o q : Outcome} → o ≡ q → (o ≡ q) × (reply o.answer ≡ reply q.answer)
with_reply e = (e, ap (λ (o : Outcome). reply o.answer) e)

given_up : (s : State) (t l : List ℕ) (why : Refusal) (a : Answer) → IsErrAnd a (λ x. x ≡ why) → left a s t l ≡ refused why s t l
given_up s t l why (Ok done) e = absurd e
given_up s t l why (Err x) e = ap (λ (y : Refusal). refused y s t l) e

module _ (R : Rules) (s : State) (cells log : ℕ) (k : InRange R s cells log) where
  pub table_in : TableOk R s.head.n cells
  table_in = record { n_low = k.head_good.n_low; n_high = k.head_good.n_high; cells_are = k.head_good.cells_are }

  -- Rows and open operations are few.
  pub few_rows : s.head.used ≤ 4096
  few_rows = omega (arith, k.head_good.room, k.head_good.rows_high)

  pub few_open : s.head.opens ≤ 17
  few_open = omega (
    arith,
    k.head_good.opens_is,
    k.head_good.n_high,
    one_low s.writer.active,
    count_low s.head.n (λ i. (as_counted (reader_at s i)).active),
  )

  pub begin_row : has_room s.head ≡ true → s.head.used < log
  begin_row e = omega (arith, leb-true (s.head.used + s.head.opens + 2) s.head.rows e, k.head_good.log_is)

  pub write_row : s.writer.active ≡ true → s.head.used < log
  write_row a = omega (arith, writer_room s R cells log k a, k.head_good.log_is)

  -- An open operation is one of those counted.
  pub write_counts : s.writer.active ≡ true → 1 ≤ s.head.opens
  write_counts a = omega (arith, writer_open s R cells log k, ap one a)

  pub read_counts : (p : ℕ) → 1 ≤ p → p ≤ s.head.n → is_retired s p ≡ false → (reader_at s (p - 1)).active ≡ true → 1 ≤ s.head.opens
  read_counts p p1 pn free a = omega (arith, reader_open s p p1 free pn R cells log k, ap one a)

  pub read_row : (p : ℕ) → 1 ≤ p → p ≤ s.head.n → is_retired s p ≡ false → (reader_at s (p - 1)).active ≡ true → s.head.used < log
  read_row p p1 pn free a = omega (arith, reader_room s p p1 free pn R cells log k a, k.head_good.log_is)

-- Processor p passed questions 4, 5 and 13.
module _ (R : Rules) (s : State) (cells log least p : ℕ) (e : Ok tt ≡ asked_of R s cells log least p) where
  k : Passed R s cells log least p
  k = passed R s cells log least p e

  pub in_passed : InRange R s cells log
  in_passed = k.is_in_range

  pub passed_high : p ≤ s.head.n
  passed_high = k.p_high

  pub passed_free : is_retired s p ≡ false
  passed_free = k.free

  pub passed_low : least ≤ p
  passed_low = k.p_low

  pub passed_16 : p ≤ 16
  passed_16 = omega (arith, k.p_high, k.is_in_range.head_good.n_high)

-- Begin a read.
module _ (s : State) (t l : List ℕ) (p : ℕ) where
  pub read_busy : (reader_at s (p - 1)).active ≡ true → refused Busy s t l ≡ open_read s t l p
  read_busy a = rw a

  module _ (a : (reader_at s (p - 1)).active ≡ false) where
    pub read_full : has_room s.head ≡ false → refused Full s t l ≡ open_read s t l p
    read_full h = rw (a, h)

    pub read_begins : has_room s.head ≡ true
        → record {
          answer = Ok Accepted;
          state = with_reader s (p - 1) (reader_begins (reader_at s (p - 1))) (began s.head);
          table = t;
          log = set l s.head.used (row_of 3 p 0);
        }
        ≡ open_read s t l p
    read_begins h = rw (a, h)

module _ (R : Rules) (s : State) (t l : List ℕ) where
  -- A sub-step of the write goes on, or ends it.
  module _ (q : Writer) (t' : List ℕ) (e : write_stepped q t' ≡ R.write_step s.head.n s.writer t) where
    pub write_goes : q.active ≡ true
        → record { answer = Ok (Moved (s.writer.moved + 1)); state = with_writer s q s.head; table = t'; log = l } ≡ step_writer R s t l
    unfolding step_writer
    write_goes a = rw (← e, a)

    pub write_ends : q.active ≡ false
        → record {
          answer = Ok (Moved (s.writer.moved + 1));
          state = with_writer s q (ended s.head);
          table = t';
          log = set l s.head.used (row_of 2 0 0);
        }
        ≡ step_writer R s t l
    unfolding step_writer
    write_ends a = rw (← e, a)

  -- The same of a read.
  module _ (p : ℕ) (q : Reader) (t' : List ℕ) (e : read_stepped q t' ≡ R.read_step s.head.n p (reader_at s (p - 1)) t) where
    pub read_goes : q.active ≡ true
        → record { answer = Ok (Moved ((reader_at s (p - 1)).moved + 1)); state = with_reader s (p - 1) q s.head; table = t'; log = l }
        ≡ step_reader R s t l p
    unfolding step_reader
    read_goes a = rw (← e, a)

    pub read_ends : q.active ≡ false
        → record {
          answer = Ok (Moved ((reader_at s (p - 1)).moved + 1));
          state = with_reader s (p - 1) q (ended s.head);
          table = t';
          log = set l s.head.used (row_of 4 p (value_in q.result));
        }
        ≡ step_reader R s t l p
    unfolding step_reader
    read_ends a = rw (← e, a)

  abbrev ok : Bool
  ok = state_ok R s (length t) (length l)

  abbrev room : Bool
  room = has_room s.head

  -- Begin a write.
  module _ (v : ℕ) where
    pub write_range : ok ≡ false → refused Range s t l ≡ begin_write_of R s t l v
    unfolding begin_write_of
    write_range e = rw e

    module _ (e : state_ok R s (length t) (length l) ≡ true) where
      pub write_busy : s.writer.active ≡ true → refused Busy s t l ≡ begin_write_of R s t l v
      unfolding begin_write_of
      write_busy a = rw (e, a)

      module _ (a : s.writer.active ≡ false) where
        pub write_full : room ≡ false → refused Full s t l ≡ begin_write_of R s t l v
        unfolding begin_write_of
        write_full h = rw (e, h, a)

        pub write_spent : room ≡ true → R.may_write s.writer ≡ false → refused Spent s t l ≡ begin_write_of R s t l v
        unfolding begin_write_of
        write_spent h m = rw (e, h, m, a)

        pub write_begins : room ≡ true → R.may_write s.writer ≡ true
            → record {
              answer = Ok Accepted;
              state = with_writer s (writer_begins s.writer v) (began s.head);
              table = t;
              log = set l s.head.used (row_of 1 0 v);
            }
            ≡ begin_write_of R s t l v
        unfolding begin_write_of
        write_begins h m = rw (e, h, m, a)

  module _ (p : ℕ) where
    -- A sub-step.
    module _ (z : p ≡ 0) where
      pub step_writes : s.writer.active ≡ true → step_writer R s t l ≡ step_open R s t l p
      step_writes a = rw (eq-eqb p 0 z, a)

      pub step_no_write : s.writer.active ≡ false → refused Idle s t l ≡ step_open R s t l p
      step_no_write a = rw (eq-eqb p 0 z, a)

    module _ (z : p ≢ 0) where
      pub step_reads : (reader_at s (p - 1)).active ≡ true → step_reader R s t l p ≡ step_open R s t l p
      step_reads a = rw (ne_eqb p 0 z, a)

      pub step_no_read : (reader_at s (p - 1)).active ≡ false → refused Idle s t l ≡ step_open R s t l p
      step_no_read a = rw (ne_eqb p 0 z, a)

    -- The three calls that a processor is asked for, where questions 4, 5 and 13 are passed, and where one is not.
    abbrev Is : Result (Unit {0}) Refusal → ℕ → Type 0
    Is a least = a ≡ asked_of R s (length t) (length l) least p

    pub read_asked : Is (Ok tt) 1 → open_read s t l p ≡ begin_read_of R s t l p
    unfolding begin_read_of
    read_asked = goes_on R s t l 1 p _

    pub step_asked : Is (Ok tt) 0 → step_open R s t l p ≡ step_of R s t l p
    unfolding step_of
    step_asked = goes_on R s t l 0 p _

    pub retire_asked : Is (Ok tt) 1 → retiring s t l p ≡ retire_of R s t l p
    unfolding retire_of
    retire_asked = goes_on R s t l 1 p _

    -- where the answer was passed on as `?` does
    module _ (why : Refusal) (a : Answer) (e : IsErrAnd a (λ x. x ≡ why)) where
      pub read_refused : Is (Err why) 1 → left a s t l ≡ begin_read_of R s t l p
      unfolding begin_read_of
      read_refused f = given_up s t l why a e ∙ turned_down R s t l 1 p _ why f

      pub step_refused : Is (Err why) 0 → left a s t l ≡ step_of R s t l p
      unfolding step_of
      step_refused f = given_up s t l why a e ∙ turned_down R s t l 0 p _ why f

      pub retire_refused : Is (Err why) 1 → left a s t l ≡ retire_of R s t l p
      unfolding retire_of
      retire_refused f = given_up s t l why a e ∙ turned_down R s t l 1 p _ why f

-- Set-up.
pub all_set : (R : Rules) (n v fresh : ℕ) (t l : List ℕ) → 1 ≤ n → n ≤ 16 → R.cells n ≤ length t → 3 ≤ length l → length l ≤ 4096
    → record {
      answer = Ok Accepted;
      state = fresh_state R.counted n fresh (length l);
      table = R.fresh_cells n v fresh ++ drop (R.cells n) t;
      log = set l 0 (start_row n v);
    }
    ≡ set_up_of R n v fresh t l
unfolding set_up_of
all_set R n v fresh t l n1 n16 h l3 l4096 =
    rw (le-leb 1 n n1, le-leb n 16 n16, le-leb (R.cells n) (length t) h, le-leb 3 (length l) l3, le-leb (length l) 4096 l4096)
