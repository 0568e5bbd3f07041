-- What a call without retirement comes to in the book: a refusal, a begin, or a sub-step.
use Prim.Native.Nat.{ℕ, ◌+◌, ◌≤◌, ◌<◌}
use mathlib.Core.Path.{◌≡◌, refl, sym, ap, subst}
use mathlib.Core.Logic.{◌≢◌}
use mathlib.Core.Bool.{Bool, true, false, ◌&&◌}
use mathlib.Core.List.{List}
use native.Mathlib.Omega.{arith}
use lib.Dec.{leb}
use lib.ListN.{length}
use Rattle.words.specs.Counting.{one}
use borrow.Author.Tests.{le-leb}
use Rattle.words.proofs.Laws.Choice.{pick_ind, le_ind, eq_ind, both, never}
use Rattle.common.specs.Calls.{is_retirement}
use Rattle.common.specs.declared.calls.Call.{Call}
use Rattle.common.specs.declared.calls.Call.TheVariants.{Write as write, Read as read, Step as step, Retire as retire}
use Rattle.common.specs.Answers.{refusal_number}
use Rattle.common.specs.declared.Refusal.{Refusal}
use Rattle.common.specs.declared.Refusal.TheVariants.{Processor, Retired, Busy, Full, Idle, Spent}
use Rattle.common.specs.Book.{Operation, idle, open_with, is_open, Model, Telling, Told, open_count, declined, begun, begins, of_processor, moves_write, moves_read, told}
use Rattle.common.proofs.Asked.{of_processor_lem}

-- a call that is refused begins nothing
pub no_begin : (t : Bool) → one (t && false) ≡ 0
no_begin true = refl
no_begin false = refl

module _ {Stamp Cell : Type 0} (B : Telling Stamp Cell) (n len : ℕ) where
  -- rows used and open operations
  abbrev pub size : Model Stamp Cell → ℕ
  size b = length b.rows + open_count n b

  -- a sub-step of the open write, and of reader p's open read
  abbrev pub write_step : Model Stamp Cell → ℕ → ℕ → List Cell → Told Stamp Cell
  write_step b v m cells = moves_write B n b (open_with v m cells)

  abbrev pub read_step : Model Stamp Cell → ℕ → ℕ → ℕ → List Cell → Told Stamp Cell
  read_step b p v m cells = moves_read B n b p (open_with v m cells)

  module _ (b : Model Stamp Cell) (P : Call → Told Stamp Cell → Type 0) where
    pub record Cases : Type 0 where
      pub refused : (c : Call) (r : Refusal) → refusal_number r ≢ 7 → P c (declined r b)
      pub full : (c : Call) → len < size b + 2 → P c (declined Full b)
      pub write_begun_lem : (v : ℕ) → is_open (b.op 0) ≡ false → size b + 2 ≤ len → P (write v) (begun b 0 1 v)
      pub read_begun_lem : (p : ℕ) → 1 ≤ p → p ≤ n → b.retired p ≡ false → is_open (b.op p) ≡ false → size b + 2 ≤ len → P (read p) (begun b p 3 0)
      pub write_moved : (v m : ℕ) (cells : List Cell) → b.op 0 ≡ open_with v m cells → P (step 0) (write_step b v m cells)
      pub read_moved : (p : ℕ) → 1 ≤ p → p ≤ n → b.retired p ≡ false → (v m : ℕ) (cells : List Cell) → b.op p ≡ open_with v m cells → P (step p) (read_step b p v m cells)

    module _ (C : Cases) where
      begins_case : (c : Call) (p : ℕ) (x : Told Stamp Cell) → (is_open (b.op p) ≡ false → size b + 2 ≤ len → P c x) → P c (begins n len b p x)
      unfolding begins
      begins_case c p x f =
          pick_ind (P c) (is_open (b.op p)) _ _ (λ _. C.refused c Busy (λ e. omega arith))
          (λ e. le_ind (P c) _ len _ _ (f e) (C.full c))

      writes : (c : Call) → c ≡ step 0 → (q : Operation Cell) → b.op 0 ≡ q → P c (moves_write B n b q)
      writes c e idle i = C.refused c Idle (λ e. omega arith)
      writes c e (open_with v m cells) i = subst (λ (z : Call). P z (write_step b v m cells)) (sym e) (C.write_moved v m cells i)

      reads : (p : ℕ) → 1 ≤ p → p ≤ n → b.retired p ≡ false → (q : Operation Cell) → b.op p ≡ q → P (step p) (moves_read B n b p q)
      reads p p1 pn free idle i = C.refused (step p) Idle (λ e. omega arith)
      reads p p1 pn free (open_with v m cells) i = C.read_moved p p1 pn free v m cells i

      asked : (c : Call) (least p : ℕ) (x : Told Stamp Cell) → (least ≤ p → p ≤ n → b.retired p ≡ false → P c x)
          → P c (of_processor n b least p x)
      asked c = of_processor_lem (P c) n b (C.refused c Processor (λ e. omega arith)) (C.refused c Retired (λ e. omega arith))

      pub cases : (c : Call) → is_retirement c ≡ false → P c (told B n len b c)
      unfolding told
      cases (write v) _ =
          begins_case (write v) 0 _
          (λ e h. pick_ind (P (write v)) (B.spent (b.stamp 0)) _ _ (λ _. C.refused (write v) Spent (λ e. omega arith)) (λ _. C.write_begun_lem v e h))
      cases (read p) _ = asked (read p) 1 p _ (λ p1 pn free. begins_case (read p) p _ (C.read_begun_lem p p1 pn free))
      cases (step p) _ =
          asked (step p) 0 p _
          (λ _ pn free. eq_ind (P (step p)) p 0 _ _ (λ e. writes (step p) (ap step e) (b.op 0) refl) (λ ne. reads p (omega arith) pn free (b.op p) refl))
      cases (retire p) e = never e

  -- what follows where it is known what the call comes to
  pub write_begins : (b : Model Stamp Cell) (v : ℕ) → is_open (b.op 0) ≡ false → size b + 2 ≤ len → B.spent (b.stamp 0) ≡ false → told B n len b (write v) ≡ begun b 0 1 v
  unfolding told begins
  write_begins b v shut room left = rw (le-leb (size b + 2) len room, shut, left)

  pub read_begins : (b : Model Stamp Cell) (p : ℕ) → 1 ≤ p → p ≤ n → b.retired p ≡ false → is_open (b.op p) ≡ false → size b + 2 ≤ len → told B n len b (read p) ≡ begun b p 3 0
  unfolding told begins
  read_begins b p p1 pn free shut room = rw (le-leb (size b + 2) len room, both (leb 1 p) (leb p n) (le-leb 1 p p1) (le-leb p n pn), free, shut)
