-- A refused call or set-up alters nothing; and every call is refused if the number of open operations is off.
use Rattle.std.specs.Prelude.{Ok, Err}
use Prim.Native.Nat.{ℕ, ◌-◌}
use mathlib.Core.Path.{◌≡◌, refl, sym, ap, ◌∙◌}
use mathlib.Core.Logic.{◌≢◌}
use mathlib.Core.Bool.{Bool, true, false}
use mathlib.Core.List.{List}
use lib.ListN.{length}
use lib.Dec.{eqb, leb}
use Rattle.words.specs.Choice.{pick}
use Rattle.words.proofs.Laws.Choice.{pick_ind, never}
use Rattle.common.specs.Calls.{Call, write, read, step, retire}
use Rattle.common.specs.Answers.{Answer}
use Rattle.common.specs.declared.Done.TheVariants.{Accepted, Moved}
use Rattle.common.specs.declared.Refusal.{Refusal}
use Rattle.common.specs.declared.Refusal.TheVariants.{Range}
use Rattle.common.specs.declared.State.{State}
use Rattle.common.specs.Effects.{Unaltered, NotSetUp}
use Rattle.common.specs.Head.{has_room}
use Rattle.common.specs.State.{reader_at, open_in}
use Rattle.common.specs.Rules.{Rules, state_ok}
use Rattle.common.specs.SetUp.{Outcome, refused, no_state, readers_fit, rows_fit, set_up_of}
use Rattle.common.specs.Register.{in_range, as_processor, begin_write_of, begin_read_of, step_writer, step_reader, step_of, retire_of, call_of}
use Rattle.common.proofs.Asked.{as_processor_lem}
use Rattle.common.proofs.Range.{test_range, no_state_lem}

abbrev is_refused : Answer → Bool
is_refused (Ok Accepted) = false
is_refused (Ok (Moved k)) = false
is_refused (Err r) = true

module _ (R : Rules) (s : State) (t l : List ℕ) where
  -- what is to be shown of an outcome
  Keeps : Outcome → Type 0
  Keeps o = (r : Refusal) → o.answer ≡ Err r → Unaltered s t l o

  refuses : (r : Refusal) → Keeps (refused r s t l)
  unfolding Keeps
  refuses r _ _ = record { state_same = refl; table_same = refl; log_same = refl }

  takes : (o : Outcome) → is_refused o.answer ≡ false → Keeps o
  unfolding Keeps
  takes o f r e = never (sym (ap is_refused e) ∙ f)

  is_in_range : (o : Outcome) → Keeps o → Keeps (in_range R s t l o)
  is_in_range o h = pick_ind Keeps (state_ok R s (length t) (length l)) _ _ (λ _. h) (λ _. refuses _)

  asked : (least p : ℕ) (o : Outcome) → Keeps o → Keeps (as_processor s t l least p o)
  asked least p o h = as_processor_lem Keeps s t l (refuses _) (refuses _) least p o (λ _ _ _. h)

  -- question 7, and then o
  if_room : (o : Outcome) → Keeps o → (r : Refusal) → Keeps (pick (has_room s.head) o (refused r s t l))
  if_room o h r = pick_ind Keeps (has_room s.head) _ _ (λ _. h) (λ _. refuses _)

  write_keeps : (v : ℕ) → Keeps (begin_write_of R s t l v)
  unfolding begin_write_of
  write_keeps v = is_in_range _ (pick_ind Keeps s.writer.active _ _ (λ _. refuses _)
      (λ _. if_room _ (pick_ind Keeps (R.may_write s.writer) _ _ (λ _. takes _ refl) (λ _. refuses _)) _))

  read_keeps : (p : ℕ) → Keeps (begin_read_of R s t l p)
  unfolding begin_read_of
  read_keeps p = is_in_range _ (asked 1 p _ (pick_ind Keeps (reader_at s (p - 1)).active _ _ (λ _. refuses _) (λ _. if_room _ (takes _ refl) _)))

  step_keeps : (p : ℕ) → Keeps (step_of R s t l p)
  unfolding step_of step_writer step_reader
  step_keeps p = is_in_range _ (asked 0 p _ (pick_ind Keeps (eqb p 0) _ _
      (λ _. pick_ind Keeps s.writer.active _ _ (λ _. takes _ refl) (λ _. refuses _))
      (λ _. pick_ind Keeps (reader_at s (p - 1)).active _ _ (λ _. takes _ refl) (λ _. refuses _))))

  retire_keeps : (p : ℕ) → Keeps (retire_of R s t l p)
  unfolding retire_of
  retire_keeps p = is_in_range _ (asked 1 p _ (takes _ refl))

  -- "A no gives its number and alters nothing."
  pub call_unaltered : (c : Call) (r : Refusal) → (call_of R s t l c).answer ≡ Err r → Unaltered s t l (call_of R s t l c)
  unfolding call_of Keeps
  call_unaltered (write v) = write_keeps v
  call_unaltered (read p) = read_keeps p
  call_unaltered (step p) = step_keeps p
  call_unaltered (retire p) = retire_keeps p

  -- (02) "A state whose number is off is out of range under question 4": by any amount, and whatever the call.
  module _ (off : s.head.opens ≢ open_in s) where
    out : state_ok R s (length t) (length l) ≡ false
    out = at (state_ok R s (length t) (length l)) refl
      where
        at : (b : Bool) → state_ok R s (length t) (length l) ≡ b → b ≡ false
        at true e = absurd (off (test_range R s _ _ e).head_good.opens_is)
        at false e = refl

    pub number_off : (c : Call) → call_of R s t l c ≡ refused Range s t l
    unfolding call_of begin_write_of begin_read_of step_of retire_of
    number_off (write v) = rw out
    number_off (read p) = rw out
    number_off (step p) = rw out
    number_off (retire p) = rw out

-- The same of a set-up, which returns no register's state.
module _ (R : Rules) (n v fresh : ℕ) (t l : List ℕ) where
  KeepsAll : Outcome → Type 0
  KeepsAll o = (r : Refusal) → o.answer ≡ Err r → NotSetUp R t l o

  denies : (o : Outcome) → o.table ≡ t → o.log ≡ l → o.state ≡ no_state R.counted → KeepsAll o
  unfolding KeepsAll
  denies o e f g _ _ = record {
    table_same = e;
    log_same = f;
    state_is = g;
    out_of_range = λ cells log. rw g (no_state_lem R R.counted cells log);
  }

  pub set_up_unaltered : (r : Refusal) → (set_up_of R n v fresh t l).answer ≡ Err r → NotSetUp R t l (set_up_of R n v fresh t l)
  unfolding set_up_of KeepsAll
  set_up_unaltered =
      pick_ind KeepsAll (readers_fit n) _ _
      (λ _. pick_ind KeepsAll (leb (R.cells n) (length t)) _ _
      (λ _. pick_ind KeepsAll (rows_fit (length l)) _ _ (λ _ r e. never (sym (ap is_refused e))) (λ _. denies _ refl refl refl))
      (λ _. denies _ refl refl refl)) (λ _. denies _ refl refl refl)
