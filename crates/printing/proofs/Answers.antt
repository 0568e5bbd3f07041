-- What a call answers and leaves, as far as the print needs it.
use Rattle.std.specs.Prelude.{Ok, Err}
use Prim.Native.Nat.{ℕ, ◌+◌, ◌-◌, ◌*◌, ◌^◌, ◌≤◌, ◌<◌}
use native.Mathlib.Omega.{arith}
use mathlib.Core.Path.{◌≡◌, refl, ◌∙◌}
use mathlib.Core.Bool.{Bool, true, false}
use mathlib.Core.List.{List, [], ◌∷◌}
use lib.Dec.{eqb, leb}
use lib.ListN.{length, set, length-set}
use borrow.Author.Tests.{eqb-false}
use Rattle.words.specs.Choice.{pick}
use Rattle.words.specs.Row.{row_of}
use Rattle.words.proofs.Laws.Choice.{pick_ind}
use Rattle.common.specs.declared.State.{State}
use Rattle.common.specs.Answers.{Answer}
use Rattle.common.specs.declared.Done.TheVariants.{Accepted, Moved}
use Rattle.common.specs.declared.calls.Call.{Call}
use Rattle.common.specs.declared.calls.Call.TheVariants.{Write as write, Read as read, Step as step, Retire as retire}
use Rattle.common.specs.Head.{has_room}
use Rattle.common.specs.State.{reader_at, is_retired, value_in}
use Rattle.common.specs.Rules.{state_ok, InRange}
use Rattle.common.specs.SetUp.{Outcome, start_row, readers_fit, rows_fit, set_up_of}
use Rattle.common.specs.Register.{begin_write_of, begin_read_of, step_writer, step_reader, step_of, retire_of, call_of, run_of}
use Rattle.common.proofs.Asked.{as_processor_lem}
use Rattle.common.proofs.Range.{test_range, reader_ok_lem}
use Rattle.protocol.specs.Rules.{ticket_rules}
use Rattle.protocol.specs.InRange.{ReaderInRange}
use Rattle.protocol.proofs.Range.{writer_in, reader_in}

-- a sub-step's number has 32 bits
abbrev pub Low : Answer → Type 0
Low (Ok Accepted) = Unit {0}
Low (Ok (Moved k)) = k < 2 ^ 32
Low (Err r) = Unit {0}

-- so has that of a call that leaves o, and the log l keeps its length
abbrev Plain : List ℕ → Outcome → Type 0
Plain l o = Low o.answer × (length o.log ≡ length l)

module _ (s : State) (t l : List ℕ) where
  abbrev P : Outcome → Type 0
  P = Plain l

  plain_write : (v : ℕ) → P (begin_write_of ticket_rules s t l v)
  unfolding begin_write_of
  plain_write v =
      pick_ind P (state_ok ticket_rules s (length t) (length l)) _ _
      (λ _. pick_ind P s.writer.active _ _ (λ _. (tt, refl))
      (λ _. pick_ind P (has_room s.head) _ _ (λ _. (tt, length-set l _ _)) (λ _. (tt, refl))))
      (λ _. (tt, refl))

  plain_read : (p : ℕ) → P (begin_read_of ticket_rules s t l p)
  unfolding begin_read_of
  plain_read p =
      pick_ind P (state_ok ticket_rules s (length t) (length l)) _ _
      (λ _. as_processor_lem P s t l (tt, refl) (tt, refl) 1 p _ (λ _ _ _.
      pick_ind P (reader_at s (p - 1)).active _ _ (λ _. (tt, refl))
      (λ _. pick_ind P (has_room s.head) _ _ (λ _. (tt, length-set l _ _)) (λ _. (tt, refl)))))
      (λ _. (tt, refl))

  plain_retire : (p : ℕ) → P (retire_of ticket_rules s t l p)
  unfolding retire_of
  plain_retire p =
      pick_ind P (state_ok ticket_rules s (length t) (length l)) _ _
      (λ _. as_processor_lem P s t l (tt, refl) (tt, refl) 1 p _ (λ _ _ _. (tt, refl)))
      (λ _. (tt, refl))

  -- an end row is added, or none
  rows_kept : (active : Bool) (k w : ℕ) → length (pick active l (set l k w)) ≡ length l
  rows_kept true k w = refl
  rows_kept false k w = length-set l k w

  module _ (k : InRange ticket_rules s (length t) (length l)) where
    writer_low : s.writer.active ≡ true → s.writer.moved + 1 < 2 ^ 32
    writer_low a = omega (arith, (writer_in s.head.n s.writer k.writer_passes).moved_low a, k.head_good.n_high)

    reader_low : (p : ℕ) → 1 ≤ p → p ≤ s.head.n → is_retired s p ≡ false → (reader_at s (p - 1)).active ≡ true → (reader_at s (p - 1)).moved + 1 < 2 ^ 32
    reader_low p a b free active =
        let r = reader_in s.head.n (reader_at s (p - 1)) (reader_ok_lem s p a free b ticket_rules (length t) (length l) k) in
        by (reader_at s (p - 1)).second refl r
      where
        by : (u : Bool) → (reader_at s (p - 1)).second ≡ u → ReaderInRange s.head.n (reader_at s (p - 1)) → (reader_at s (p - 1)).moved + 1 < 2 ^ 32
        by true e r = omega (arith, r.in_second active e, k.head_good.n_high)
        by false e r = omega (arith, r.in_first active e, k.head_good.n_high)

  plain_step : (p : ℕ) → P (step_of ticket_rules s t l p)
  unfolding step_of step_writer step_reader
  plain_step p =
      pick_ind P (state_ok ticket_rules s (length t) (length l)) _ _
      (λ e. let k = test_range ticket_rules s (length t) (length l) e in
      as_processor_lem P s t l (tt, refl) (tt, refl) 0 p _ (λ _ pn free.
      pick_ind P (eqb p 0) _ _
      (λ _. pick_ind P s.writer.active _ _ (λ a. (writer_low k a, rows_kept (ticket_rules.write_step s.head.n s.writer t).writer.active s.head.used (row_of 2 0 0))) (λ _. (tt, refl)))
      (λ z. let q = ticket_rules.read_step s.head.n p (reader_at s (p - 1)) t in
      pick_ind P (reader_at s (p - 1)).active _ _
      (λ a. (reader_low k p (omega (arith, eqb-false p 0 z)) pn free a, rows_kept q.reader.active s.head.used (row_of 4 p (value_in q.reader.result)))) (λ _. (tt, refl)))))
      (λ _. (tt, refl))

  pub plain_call : (c : Call) → Plain l (call_of ticket_rules s t l c)
  unfolding call_of
  plain_call (write v) = plain_write v
  plain_call (read p) = plain_read p
  plain_call (step p) = plain_step p
  plain_call (retire p) = plain_retire p

-- A run has an answer for each call, and its log keeps its length.
pub answer_each : (cs : List Call) (s : State) (t l : List ℕ) → length (run_of ticket_rules s t l cs).answers ≡ length cs
unfolding run_of
answer_each [] s t l = refl
answer_each (c ∷ cs) s t l = let o = call_of ticket_rules s t l c in omega (arith, answer_each cs o.state o.table o.log)

pub rows_same : (cs : List Call) (s : State) (t l : List ℕ) → length (run_of ticket_rules s t l cs).log ≡ length l
unfolding run_of
rows_same [] s t l = refl
rows_same (c ∷ cs) s t l =
    let o = call_of ticket_rules s t l c in
    rows_same cs o.state o.table o.log ∙ (plain_call s t l c).1

-- So does the log that is lent to a set_up.
pub set_up_same : (n v : ℕ) (t l : List ℕ) → length (set_up_of ticket_rules n v 0 t l).log ≡ length l
unfolding set_up_of
set_up_same n v t l =
    let P : Outcome → Type 0 = λ o. length o.log ≡ length l in
    pick_ind P (readers_fit n) _ _
    (λ _. pick_ind P (leb (n * n + n) (length t)) _ _
    (λ _. pick_ind P (rows_fit (length l)) _ _ (λ _. length-set l 0 (start_row n v)) (λ _. refl)) (λ _. refl)) (λ _. refl)
