-- What is asked of a call by a processor: questions 5 and 13, of a state and of the book. And what a reader that is not retired counts as.
use Prim.Native.Nat.{ℕ, ◌≤◌}
use mathlib.Core.Path.{◌≡◌, ap}
use mathlib.Core.Bool.{Bool, false, ◌&&◌}
use mathlib.Core.List.{List}
use lib.Dec.{leb}
use borrow.Author.Tests.{leb-true}
use Rattle.words.proofs.Laws.Choice.{pick_ind, left, right}
use Rattle.common.specs.declared.Refusal.TheVariants.{Processor, Retired}
use Rattle.common.specs.declared.Reader.{Reader}
use Rattle.common.specs.declared.State.{State}
use Rattle.common.specs.Head.{is_processor}
use Rattle.common.specs.State.{is_retired, still_open, as_counted}
use Rattle.common.specs.SetUp.{Outcome, refused}
use Rattle.common.specs.Register.{as_processor}
use Rattle.common.specs.Book.{Model, Told, declined, of_processor}

-- P holds of what comes of it if it holds of both refusals, and of o where both questions are passed.
module _ (P : Outcome → Type 0) (s : State) (t l : List ℕ) (no-processor : P (refused Processor s t l)) (retired : P (refused Retired s t l)) where
  pub as_processor_lem : (least p : ℕ) (o : Outcome) → (least ≤ p → p ≤ s.head.n → is_retired s p ≡ false → P o) → P (as_processor s t l least p o)
  as_processor_lem least p o f =
      pick_ind P (is_processor s.head least p) _ _
      (λ e. pick_ind P _ _ _ (λ _. retired)
      (f (leb-true least p (left (leb least p) (leb p s.head.n) e)) (leb-true p s.head.n (right (leb least p) (leb p s.head.n) e))))
      (λ _. no-processor)

-- The same of the book.
module _ {Stamp Cell : Type 0} (P : Told Stamp Cell → Type 0) (n : ℕ) (b : Model Stamp Cell) (no-processor : P (declined Processor b))
    (retired : P (declined Retired b)) where
  pub of_processor_lem : (least p : ℕ) (x : Told Stamp Cell) → (least ≤ p → p ≤ n → b.retired p ≡ false → P x) → P (of_processor n b least p x)
  of_processor_lem least p x f =
      pick_ind P (leb least p && leb p n) _ _
      (λ e. pick_ind P _ _ _ (λ _. retired)
      (f (leb-true least p (left (leb least p) (leb p n) e)) (leb-true p n (right (leb least p) (leb p n) e))))
      (λ _. no-processor)

-- A reader, as it counts if it is retired or not.
abbrev counted_if : Reader → Bool → Reader
counted_if r retired = record r { active = still_open retired r.active }

pub counted_if_lem : (r : Reader) (b : Bool) → r.retired ≡ b → as_counted r ≡ counted_if r b
counted_if_lem r b e = ap (counted_if r) e

-- One that is not counts as it stands.
pub counts : (r : Reader) → r.retired ≡ false → as_counted r ≡ r
counts r = counted_if_lem r false
