-- A call keeps the kind of register that the state's head tells.
use Prim.Native.Nat.{ℕ, ◌-◌}
use mathlib.Core.Path.{◌≡◌, refl}
use mathlib.Core.Bool.{Bool}
use mathlib.Core.List.{List}
use lib.Dec.{eqb}
use lib.ListN.{length}
use Rattle.words.proofs.Laws.Choice.{pick_ind}
use Rattle.common.specs.declared.State.{State}
use Rattle.common.specs.Calls.{Call, write, read, step, retire}
use Rattle.common.specs.Head.{has_room}
use Rattle.common.specs.State.{reader_at}
use Rattle.common.specs.Rules.{Rules, state_ok}
use Rattle.common.specs.SetUp.{Outcome}
use Rattle.common.specs.Register.{begin_write_of, begin_read_of, step_of, step_writer, step_reader, retire_of, call_of}
use Rattle.common.proofs.Asked.{as_processor_lem}

module _ (R : Rules) (s : State) (t l : List ℕ) where
  abbrev Same : Outcome → Type 0
  Same o = o.state.head.counted ≡ s.head.counted

  abbrev ok : Bool
  ok = state_ok R s (length t) (length l)

  abbrev room : Bool
  room = has_room s.head

  pub kind_kept : (c : Call) → (call_of R s t l c).state.head.counted ≡ s.head.counted
  unfolding call_of begin_write_of begin_read_of step_of step_writer step_reader retire_of
  kind_kept (write v) =
      pick_ind Same ok _ _
      (λ _. pick_ind Same s.writer.active _ _ (λ _. refl)
      (λ _. pick_ind Same room _ _ (λ _. pick_ind Same (R.may_write s.writer) _ _ (λ _. refl) (λ _. refl)) (λ _. refl)))
      (λ _. refl)
  kind_kept (read p) =
      pick_ind Same ok _ _
      (λ _. as_processor_lem Same s t l refl refl 1 p _ λ _ _ _.
      pick_ind Same (reader_at s (p - 1)).active _ _ (λ _. refl) (λ _. pick_ind Same room _ _ (λ _. refl) (λ _. refl)))
      (λ _. refl)
  kind_kept (step p) =
      pick_ind Same ok _ _
      (λ _. as_processor_lem Same s t l refl refl 0 p _ λ _ _ _.
      pick_ind Same (eqb p 0) _ _ (λ _. pick_ind Same s.writer.active _ _ (λ _. refl) (λ _. refl))
      (λ _. pick_ind Same (reader_at s (p - 1)).active _ _ (λ _. refl) (λ _. refl)))
      (λ _. refl)
  kind_kept (retire p) = pick_ind Same ok _ _ (λ _. as_processor_lem Same s t l refl refl 1 p _ λ _ _ _. refl) (λ _. refl)
