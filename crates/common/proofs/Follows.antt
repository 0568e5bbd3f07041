-- A machine that numbers the writes follows a register's book: it does so for every list of calls if it does so operation by operation.
use Rattle.std.specs.Prelude.{Ok, Err}
use Prim.Native.Nat.{ℕ, zero, suc, ◌+◌, ◌^◌, ◌<◌}
use mathlib.Core.Path.{◌≡◌, refl, subst, ap}
use mathlib.Core.Bool.{false}
use mathlib.Core.List.{List, [], ◌∷◌, ◌++◌}
use native.Mathlib.Omega.{arith}
use lib.ListN.{get_or}
use Rattle.words.proofs.Laws.Choice.{pick_ind, le_ind, eq_ind, never}
use Rattle.common.specs.Calls.{Call, write, read, step, retire, LowCall, LowCalls}
use Rattle.common.specs.Answers.{Answer}
use Rattle.common.specs.declared.Done.TheVariants.{Accepted, Moved}
use Rattle.common.specs.Book.{Operation, idle, open_with, is_open, Model, Telling, Told, begun, begins, entered, withdrawn, begins_write, moves_write, moves_read, told, kept}
use Rattle.common.proofs.Asked.{of_processor_lem}

-- Q of every element
module _ {X : Type 0} (Q : X → Type 0) where
  abbrev pub All : List X → Type 0
  All [] = Unit {0}
  All (x ∷ xs) = Q x × All xs

  pub all_at : (d : X) → Q d → (xs : List X) (k : ℕ) → All xs → Q (get_or xs k d)
  all_at d q [] k h = q
  all_at d q (x ∷ xs) zero h = h.0
  all_at d q (x ∷ xs) (suc k) h = all_at d q xs k h.1

  all_app : (xs ys : List X) → All xs → All ys → All (xs ++ ys)
  all_app [] ys a b = b
  all_app (x ∷ xs) ys a b = (a.0, all_app xs ys a.1 b)

-- From the number after K on, the writes are given the list's elements.
abbrev pub Future : {X : Type 0} → (ℕ → X) → ℕ → List X → Type 0
Future given K [] = Unit {0}
Future given K (x ∷ xs) = (given (suc K) ≡ x) × Future given (suc K) xs

future : {X : Type 0} (d : X) (all xs : List X) (K : ℕ) → ((k : ℕ) → get_or all (suc K + k) d ≡ get_or xs k d) → Future (λ k. get_or all k d) K xs
future d all [] K h = tt
future d all (x ∷ xs) K h = (
  subst (λ (j : ℕ). get_or all j d ≡ x) (omega arith) (h 0),
  future d all xs (suc K) (λ k. subst (λ (j : ℕ). get_or all j d ≡ get_or xs k d) (omega arith) (h (suc k))),
)

-- The start counts as writes 0 and 1.
pub from_start : {X : Type 0} (d a b : X) (xs : List X) → Future (λ k. get_or (a ∷ b ∷ xs) k d) 1 xs
from_start d a b xs = future d (a ∷ b ∷ xs) xs 1 (λ k. let e : suc 1 + k ≡ suc (suc k) = omega arith in ap (λ (j : ℕ). get_or (a ∷ b ∷ xs) j d) e)

-- the value of an open write
abbrev pub open_value : {Cell : Type 0} → Operation Cell → ℕ
open_value idle = 0
open_value (open_with v m cells) = v

pub is_idle : {Cell : Type 0} (q : Operation Cell) → is_open q ≡ false → q ≡ idle
is_idle idle e = refl
is_idle (open_with v m cells) e = never e

-- What writes are given, at their begin or at a sub-step.
module _ {Stamp Cell X : Type 0} (B : Telling Stamp Cell) (n len : ℕ) (at_begin : ℕ → List X) (at_step : Model Stamp Cell → ℕ → ℕ → List Cell → List X) where
  abbrev moving : Model Stamp Cell → Operation Cell → List X
  moving b idle = []
  moving b (open_with v m cells) = at_step b v m cells

  abbrev gained : Model Stamp Cell → Call → Answer → List X
  gained b (write v) (Ok Accepted) = at_begin v
  gained b (write v) (Ok (Moved k)) = []
  gained b (write v) (Err r) = []
  gained b (read p) a = []
  gained b (step zero) (Ok Accepted) = []
  gained b (step zero) (Ok (Moved k)) = moving b (b.op 0)
  gained b (step zero) (Err r) = []
  gained b (step (suc i)) a = []
  gained b (retire p) a = []

  unfoldable pub gains : Model Stamp Cell → List Call → List X
  gains b [] = []
  gains b (c ∷ cs) = gained b c (told B n len b c).answer ++ gains (told B n len b c).model cs

  -- Q holds of all that is given; I: what holds of the book at each call.
  module _ (Q : X → Type 0) (I : Model Stamp Cell → Type 0) (begin : (v : ℕ) → v < 2 ^ 32 → All Q (at_begin v))
      (sub-step : (b : Model Stamp Cell) (v m : ℕ) (cells : List Cell) → b.op 0 ≡ open_with v m cells → I b → All Q (at_step b v m cells))
      (stays : (b : Model Stamp Cell) (c : Call) → LowCall c → I b → I (told B n len b c).model) where
    moving_all : (b : Model Stamp Cell) (q : Operation Cell) → b.op 0 ≡ q → I b → All Q (moving b q)
    moving_all b idle e h = tt
    moving_all b (open_with v m cells) e h = sub-step b v m cells e h

    gained_all : (b : Model Stamp Cell) (c : Call) (a : Answer) → LowCall c → I b → All Q (gained b c a)
    gained_all b (write v) (Ok Accepted) low h = begin v low
    gained_all b (write v) (Ok (Moved k)) low h = tt
    gained_all b (write v) (Err r) low h = tt
    gained_all b (read p) a low h = tt
    gained_all b (step zero) (Ok Accepted) low h = tt
    gained_all b (step zero) (Ok (Moved k)) low h = moving_all b (b.op 0) refl h
    gained_all b (step zero) (Err r) low h = tt
    gained_all b (step (suc i)) a low h = tt
    gained_all b (retire p) a low h = tt

    pub gains_all : (b : Model Stamp Cell) (cs : List Call) → LowCalls cs → I b → All Q (gains b cs)
    unfolding gains
    gains_all b [] low h = tt
    gains_all b (c ∷ cs) low h =
        all_app Q (gained b c (told B n len b c).answer) (gains (told B n len b c).model cs) (gained_all b c (told B n len b c).answer low.0 h)
        (gains_all (told B n len b c).model cs low.1 (stays b c low.0 h))

  -- S: the machine's states, with the newest number K. Sim: that a state is behind a book.
  module _ {S : Type 0} (given : ℕ → X) (K : S → ℕ) (Sim : Model Stamp Cell → S → Type 0) where
    -- a state behind the book, and the rest of what is given
    abbrev After : List X → Model Stamp Cell → Type 0
    After xs b = (s : S) × Sim b s × Future given (K s) xs

    -- a state behind the book with the same newest number
    abbrev Go : Model Stamp Cell → S → Type 0
    Go b s = (t : S) × Sim b t × (K t ≡ K s)

    pub record Follows : Type 0 where
      pub write_begins : (b : Model Stamp Cell) (s : S) (xs : List X) (v : ℕ) → v < 2 ^ 32 → b.op 0 ≡ idle → B.spent (b.stamp 0) ≡ false → Sim b s
          → Future given (K s) (at_begin v ++ xs) → After xs (begun b 0 1 v).model
      pub write_steps_lem : (b : Model Stamp Cell) (s : S) (xs : List X) (v m : ℕ) (cells : List Cell) → b.op 0 ≡ open_with v m cells → Sim b s
          → Future given (K s) (at_step b v m cells ++ xs) → After xs (entered b 0 2 (B.write_turn n b.table (b.stamp 0) v m cells))
      pub read_begins : (b : Model Stamp Cell) (s : S) (i : ℕ) → i < n → b.op (suc i) ≡ idle → Sim b s → Go (begun b (suc i) 3 0).model s
      pub read_steps_lem : (b : Model Stamp Cell) (s : S) (i v m : ℕ) (cells : List Cell) → i < n → b.op (suc i) ≡ open_with v m cells → Sim b s
          → Go (entered b (suc i) 4 (B.read_turn n (suc i) b.table (b.stamp (suc i)) m cells)) s
      -- a reader that is retired moves no more: a state behind the book stays behind it
      pub retires : (b : Model Stamp Cell) (s : S) (p : ℕ) → Sim b s → Sim (withdrawn b p) s

    module _ (F : Follows) where
      module _ (b : Model Stamp Cell) (s : S) (xs : List X) (z : Sim b s) where
        abbrev To : Told Stamp Cell → Type 0
        To x = After xs x.model

        writes : (v : ℕ) → v < 2 ^ 32 → Future given (K s) (gained b (write v) (begins n len b 0 (begins_write B b v)).answer ++ xs) → To (begins n len b 0 (begins_write B b v))
        unfolding begins
        writes v low =
            let M : Told Stamp Cell → Type 0 = λ x. Future given (K s) (gained b (write v) x.answer ++ xs) → To x in
            pick_ind M (is_open (b.op 0)) _ _ (λ _ f. (s, z, f))
            (λ e. le_ind M _ len _ _
            (λ _. pick_ind M (B.spent (b.stamp 0)) _ _ (λ _ f. (s, z, f)) (λ g f. F.write_begins b s xs v low (is_idle (b.op 0) e) g z f))
            (λ _ f. (s, z, f)))

        reads : (i : ℕ) → i < n → Future given (K s) xs → To (begins n len b (suc i) (begun b (suc i) 3 0))
        unfolding begins
        reads i h f =
            pick_ind To (is_open (b.op (suc i))) _ _ (λ _. (s, z, f))
            (λ e. le_ind To _ len _ _
            (λ _. let r = F.read_begins b s i h (is_idle (b.op (suc i)) e) z in (r.0, r.1, rw r.2 f)) (λ _. (s, z, f)))

        steps_write : (q : Operation Cell) → b.op 0 ≡ q → Future given (K s) (gained b (step 0) (moves_write B n b q).answer ++ xs) → To (moves_write B n b q)
        steps_write idle e f = (s, z, f)
        steps_write (open_with v m cells) e f = F.write_steps_lem b s xs v m cells e z (subst (λ (q : Operation Cell). Future given (K s) (moving b q ++ xs)) e f)

        steps_read : (i : ℕ) → i < n → (q : Operation Cell) → b.op (suc i) ≡ q → Future given (K s) xs → To (moves_read B n b (suc i) q)
        steps_read i h idle e f = (s, z, f)
        steps_read i h (open_with v m cells) e f = let r = F.read_steps_lem b s i v m cells h e z in (r.0, r.1, rw r.2 f)

        call_follows : (c : Call) → LowCall c → Future given (K s) (gained b c (told B n len b c).answer ++ xs) → To (told B n len b c)
        unfolding told
        call_follows (write v) low f = writes v low f
        call_follows (read zero) _ f = (s, z, f)
        call_follows (read (suc i)) _ f =
            of_processor_lem To n b (s, z, f) (s, z, f) 1 (suc i) _ (λ _ h _. reads i h f)
        call_follows (step zero) _ f =
            let M : Told Stamp Cell → Type 0 = λ x. Future given (K s) (gained b (step 0) x.answer ++ xs) → To x in
            of_processor_lem M n b (λ f. (s, z, f)) (λ f. (s, z, f)) 0 0 _ (λ _ _ _. steps_write (b.op 0) refl) f
        call_follows (step (suc i)) _ f =
            of_processor_lem To n b (s, z, f) (s, z, f) 0 (suc i) _
            (λ _ h _. eq_ind To (suc i) 0 _ _ (λ e. absurd (omega arith)) (λ _. steps_read i h (b.op (suc i)) refl f))
        call_follows (retire p) _ f = of_processor_lem To n b (s, z, f) (s, z, f) 1 p _ (λ _ _ _. (s, F.retires b s p z, f))

      pub calls_follow : (b : Model Stamp Cell) (s : S) (cs : List Call) → LowCalls cs → Sim b s → Future given (K s) (gains b cs)
          → (t : S) × Sim (kept B n len b cs).model t
      unfolding kept gains
      calls_follow b s [] low z f = (s, z)
      calls_follow b s (c ∷ cs) low z f =
          let r = call_follows b s (gains (told B n len b c).model cs) z c low.0 f in
          calls_follow (told B n len b c).model r.0 cs low.1 r.1 r.2
