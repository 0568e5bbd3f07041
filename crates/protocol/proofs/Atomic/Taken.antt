-- The tickets that a list of calls takes. All are below 63.
use Prim.Native.Nat.{ℕ, ◌+◌, ◌*◌, ◌^◌, ◌≤◌, ◌<◌}
use mathlib.Core.Path.{◌≡◌}
use mathlib.Core.Logic.{◌≢◌}
use mathlib.Core.List.{List, [], ◌∷◌}
use native.Mathlib.Omega.{arith}
use lib.ListN.{length, length-append}
use lib.Dec.{eqb}
use Rattle.words.specs.declared.cell.Cell.{Cell}
use Rattle.words.specs.Choice.{pick}
use Rattle.words.specs.Update.{upd}
use Rattle.words.proofs.Laws.Choice.{pick_ind, lt_ind, le_ind, eq_ind}
use Rattle.words.proofs.Laws.Update.{upd_same, upd_other}
use Rattle.common.specs.Book.{idle, open_with, is_open, begun, begins, moves_write, moves_read, told}
use Rattle.common.specs.Calls.{LowCall, LowCalls}
use Rattle.common.specs.declared.calls.Call.{Call}
use Rattle.common.specs.declared.calls.Call.TheVariants.{Write as write, Read as read, Step as step, Retire as retire}
use Rattle.common.proofs.Asked.{of_processor_lem}
use Rattle.common.proofs.Follows.{All, gains, gains_all}
use Rattle.protocol.specs.Reference.{Operation, Model, Turn, ticket_after, write_turn, book, Told}
use Rattle.protocol.proofs.NewTicket.{after_low}

-- a ticket taken, and its write's value
pub record Taken : Type 0 where
  pub ticket : ℕ
  pub value : ℕ

abbrev pub no_ticket : Taken
no_ticket = record { ticket = 0; value = 0 }

abbrev pub Small : Taken → Type 0
Small x = (x.ticket < 63) × (x.value < 2 ^ 32)

abbrev pub at_begin : ℕ → List Taken
at_begin v = []

-- A write takes its ticket at its sub-step n + 1.
abbrev pub at_step : ℕ → Model → ℕ → ℕ → List Cell → List Taken
at_step n b v m cells = pick (eqb m n) (record { ticket = ticket_after n (b.stamp 0) cells; value = v } ∷ []) []

abbrev pub tickets : ℕ → ℕ → Model → List Call → List Taken
tickets n len = gains book n len at_begin (at_step n)

module _ (n : ℕ) (few : n ≤ 16) where
  -- The writer has read no more cells than there are.
  abbrev Lens : Operation → Type 0
  Lens idle = Unit {0}
  Lens (open_with v m cells) = (length cells ≤ m) × (length cells ≤ n) × (v < 2 ^ 32)

  abbrev Fine : Told → Type 0
  Fine x = Lens (x.model.op 0)

  module _ (len : ℕ) (b : Model) (h : Lens (b.op 0)) where
    -- A reader's calls leave the writer alone.
    others : (p : ℕ) (q : Operation) → p ≢ 0 → Lens (upd b.op p q 0)
    others p q ne = rw (upd_other b.op p q 0 (λ e. ne (rw (← e)))) h

    lens_begins : (p kind v : ℕ) → Lens (upd b.op p (open_with v 0 []) 0) → Fine (begins n len b p (begun b p kind v))
    unfolding begins
    lens_begins p kind v g = pick_ind Fine (is_open (b.op p)) _ _ (λ _. h) (λ _. le_ind Fine _ len _ _ (λ _. g) (λ _. h))

    lens_write : (v m : ℕ) (cells : List Cell) → Lens (open_with v m cells) → Lens (write_turn n b.table (b.stamp 0) v m cells).op
    unfolding write_turn
    lens_write v m cells g =
        lt_ind (λ (x : Turn). Lens x.op) m n _ _ (λ l. rw length-append (omega arith, omega arith, g.2))
        (λ _. lt_ind (λ (x : Turn). Lens x.op) (m + 1) (2 * n) _ _ (λ _. (omega arith, g.1, g.2)) (λ _. tt))

    lens_told : (x : Call) → LowCall x → Fine (told book n len b x)
    unfolding told
    lens_told (write v) low = lens_begins 0 1 v (rw (upd_same b.op 0) (omega arith, omega arith, low))
    lens_told (read p) _ =
        of_processor_lem Fine n b h h 1 p _ (λ p1 _ _. lens_begins p 3 0 (others p _ (omega arith)))
    lens_told (step p) _ =
        of_processor_lem Fine n b h h 0 p _ (λ _ _ _. eq_ind Fine p 0 _ _ (λ _. at_writer_lem (b.op 0) h) (λ ne. at_reader ne (b.op p)))
      where
        at_writer_lem : (q : Operation) → Lens q → Fine (moves_write book n b q)
        at_writer_lem idle g = h
        at_writer_lem (open_with v m cells) g = rw (upd_same b.op 0) (lens_write v m cells g)

        at_reader : p ≢ 0 → (q : Operation) → Fine (moves_read book n b p q)
        at_reader ne idle = h
        at_reader ne (open_with v m cells) = others p _ ne
    lens_told (retire p) _ = of_processor_lem Fine n b h h 1 p _ (λ _ _ _. h)

  step_small : (b : Model) (v m : ℕ) (cells : List Cell) → Lens (open_with v m cells) → All Small (at_step n b v m cells)
  step_small b v m cells h =
      eq_ind (All Small) m n _ _
      (λ _. ((omega (arith, after_low n (b.stamp 0) cells h.1), h.2), tt)) (λ _. tt)

  pub tickets_low : (len : ℕ) (b : Model) (cs : List Call) → LowCalls cs → b.op 0 ≡ idle → All Small (tickets n len b cs)
  tickets_low len b cs low e =
      gains_all book n len at_begin (at_step n) Small (λ b. Lens (b.op 0)) (λ _ _. tt) (λ b v m cells e h. step_small b v m cells (rw e at h))
      (λ b c low h. lens_told len b h c low) b cs low (rw e tt)
