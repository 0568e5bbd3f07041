-- A call sets at most one cell and one row, and nothing else of its buffers.
use Prim.Native.Nat.{ℕ, ◌+◌, ◌-◌, ◌≤◌}
use mathlib.Core.Path.{◌≡◌}
use mathlib.Core.List.{List}
use mathlib.Core.Bool.{true, false}
use native.Mathlib.Omega.{arith}
use lib.ListN.{length}
use Rattle.words.specs.Row.{row_of}
use Rattle.words.proofs.Laws.Choice.{pick_ind, le_ind, eq_ind}
use Rattle.common.specs.Calls.{Call, write, read, step, retire}
use Rattle.common.specs.Effects.{as_it_was, one_set, Touches}
use Rattle.common.specs.declared.Refusal.{Refusal}
use Rattle.common.specs.declared.State.{State}
use Rattle.common.specs.State.{reader_at, is_retired, value_in}
use Rattle.common.specs.Rules.{Rules, state_ok, InRange}
use Rattle.common.specs.SetUp.{Outcome, refused}
use Rattle.common.specs.Register.{as_processor, begin_write_of, begin_read_of, step_writer, step_reader, step_of, retire_of, call_of}
use Rattle.common.proofs.Effects.{row_or}
use Rattle.common.proofs.Lawful.{Lawful}
use Rattle.common.proofs.Asked.{as_processor_lem}
use Rattle.common.proofs.Range.{test_range, reader_ok_lem, reader_room, writer_room}

module _ (R : Rules) (W : Lawful R) (s : State) (t l : List ℕ) where
  abbrev To : Outcome → Type 0
  To = Touches R s t l

  abbrev n : ℕ
  n = s.head.n

  nothing : (r : Refusal) → To (refused r s t l)
  nothing r = record { one_cell = as_it_was; one_row = as_it_was }

  asked : (least p : ℕ) (o : Outcome) → (least ≤ p → p ≤ n → is_retired s p ≡ false → To o) → To (as_processor s t l least p o)
  asked = as_processor_lem To s t l (nothing _) (nothing _)

  write_touches : (v : ℕ) → To (begin_write_of R s t l v)
  unfolding begin_write_of
  write_touches v =
      pick_ind To (state_ok R s (length t) (length l)) _ _
      (λ _. pick_ind To s.writer.active _ _ (λ _. nothing _)
      (λ _. le_ind To (s.head.used + s.head.opens + 2) s.head.rows _ _
      (λ h. pick_ind To (R.may_write s.writer) _ _ (λ _. record { one_cell = as_it_was; one_row = one_set s.head.used _ (omega arith) }) (λ _. nothing _))
      (λ _. nothing _)))
      (λ _. nothing _)

  read_touches : (p : ℕ) → To (begin_read_of R s t l p)
  unfolding begin_read_of
  read_touches p =
      pick_ind To (state_ok R s (length t) (length l)) _ _
      (λ _. asked 1 p _ λ _ _ _. pick_ind To (reader_at s (p - 1)).active _ _ (λ _. nothing _)
      (λ _. le_ind To (s.head.used + s.head.opens + 2) s.head.rows _ _
      (λ h. record { one_cell = as_it_was; one_row = one_set s.head.used _ (omega arith) }) (λ _. nothing _)))
      (λ _. nothing _)

  module _ (k : InRange R s (length t) (length l)) where
    writer_touches : s.writer.active ≡ true → To (step_writer R s t l)
    unfolding step_writer
    writer_touches a = record {
      one_cell = W.write_cell n s.writer t k.head_good.n_low k.writer_passes a;
      one_row = row_or s.head.rows s.head.used l (R.write_step n s.writer t).writer.active (row_of 2 0 0) (writer_room s R _ _ k a);
    }

    reader_touches : (p : ℕ) → 1 ≤ p → p ≤ n → is_retired s p ≡ false → (reader_at s (p - 1)).active ≡ true → To (step_reader R s t l p)
    unfolding step_reader
    reader_touches p p1 pn free a =
        let q = (R.read_step n p (reader_at s (p - 1)) t).reader in
        record {
          one_cell = W.read_cell n p (reader_at s (p - 1)) t p1 pn (reader_ok_lem s p p1 free pn R _ _ k) a;
          one_row = row_or s.head.rows s.head.used l q.active (row_of 4 p (value_in q.result))
              (reader_room s p p1 free pn R _ _ k a);
        }

  step_touches : (p : ℕ) → To (step_of R s t l p)
  unfolding step_of
  step_touches p =
      pick_ind To (state_ok R s (length t) (length l)) _ _
      (λ e.
      let k = test_range R s (length t) (length l) e in
      asked 0 p _ λ _ pn free. eq_ind To p 0 _ _
      (λ _. pick_ind To s.writer.active _ _ (writer_touches k) (λ _. nothing _))
      (λ ne. pick_ind To (reader_at s (p - 1)).active _ _ (reader_touches k p (omega arith) pn free) (λ _. nothing _)))
      (λ _. nothing _)

  retire_touches : (p : ℕ) → To (retire_of R s t l p)
  unfolding retire_of
  retire_touches p =
      pick_ind To (state_ok R s (length t) (length l)) _ _
      (λ _. asked 1 p _ λ _ _ _. record { one_cell = as_it_was; one_row = as_it_was })
      (λ _. nothing _)

  pub call_touches : (c : Call) → To (call_of R s t l c)
  unfolding call_of
  call_touches (write v) = write_touches v
  call_touches (read p) = read_touches p
  call_touches (step p) = step_touches p
  call_touches (retire p) = retire_touches p
