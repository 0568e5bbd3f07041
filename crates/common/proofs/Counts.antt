-- The call that follows a list, in the book and in the register: a sub-step of an open operation, and a retired reader's call.
use Rattle.std.specs.Prelude.{Ok, Err}
use Prim.Native.Nat.{ℕ, ◌+◌, ◌≤◌}
use mathlib.Core.Path.{◌≡◌, sym, ap, ◌∙◌}
use mathlib.Core.Bool.{true, false}
use mathlib.Core.List.{List}
use native.Mathlib.Omega.{arith}
use lib.ListN.{length}
use lib.Dec.{leb}
use borrow.Author.Tests.{le-leb, ne_eqb}
use Rattle.words.proofs.Laws.Choice.{both}
use Rattle.common.specs.Calls.{Call, step, retire, CallBy, by_begin, by_step, by_retirement}
use Rattle.common.specs.declared.Done.TheVariants.{Moved}
use Rattle.common.specs.declared.Refusal.TheVariants.{Retired}
use Rattle.common.specs.declared.Writer.{Writer}
use Rattle.common.specs.declared.Reader.{Reader}
use Rattle.common.specs.declared.State.{State}
use Rattle.common.specs.State.{is_retired, with_retired}
use Rattle.common.specs.Rules.{Rules, state_ok}
use Rattle.common.specs.Register.{retire_of, call_of}
use Rattle.common.specs.Book.{Operation, open_with, Model, Telling, Told, moves_write, moves_read, told}
use Rattle.common.proofs.Lawful.{Lawful, Simulates}
use Rattle.common.proofs.Keep.{Good}
use Rattle.common.proofs.Refine.{Rel, call_rel}

-- in the book
module _ {Stamp Cell : Type 0} (B : Telling Stamp Cell) (n len : ℕ) (b : Model Stamp Cell) where
  pub write_told : (q : Operation Cell) → b.retired 0 ≡ false → b.op 0 ≡ q → told B n len b (step 0) ≡ moves_write B n b q
  unfolding told
  write_told q free e = rw (e, free, le-leb 0 n (omega arith))

  pub read_told : (p : ℕ) (q : Operation Cell) → 1 ≤ p → p ≤ n → b.retired p ≡ false → b.op p ≡ q → told B n len b (step p) ≡ moves_read B n b p q
  unfolding told
  read_told p q p1 pn free e = rw (e, free, both (leb 0 p) (leb p n) (le-leb 0 p (omega arith)) (le-leb p n pn), ne_eqb p 0 (omega arith))

  pub out_told : (p : ℕ) → 1 ≤ p → p ≤ n → b.retired p ≡ true → (c : Call) → CallBy p c → (told B n len b c).answer ≡ Err Retired
  unfolding told
  out_told p p1 pn gone c by_begin = rw (both (leb 1 p) (leb p n) (le-leb 1 p p1) (le-leb p n pn), gone)
  out_told p p1 pn gone c by_step = rw (both (leb 0 p) (leb p n) (le-leb 0 p (omega arith)) (le-leb p n pn), gone)
  out_told p p1 pn gone c by_retirement = rw (both (leb 1 p) (leb p n) (le-leb 1 p p1) (le-leb p n pn), gone)

-- a retirement that is accepted, in the register
pub retires_to : (R : Rules) (s : State) (t l : List ℕ) (p : ℕ) → state_ok R s (length t) (length l) ≡ true → 1 ≤ p → p ≤ s.head.n → is_retired s p ≡ false
    → (call_of R s t l (retire p)).state ≡ with_retired s p
unfolding call_of retire_of
retires_to R s t l p e p1 pn free = rw (e, both (leb 1 p) (leb p s.head.n) (le-leb 1 p p1) (le-leb p s.head.n pn), free)

-- its number in the register: the words moved, and this one
module _ {Stamp Cell : Type 0} (R : Rules) (B : Telling Stamp Cell) (WIs : ℕ → Writer → Stamp → Operation Cell → Type 0)
    (RIs : ℕ → Reader → Stamp → Operation Cell → Type 0) (W : Lawful R) (S : Simulates R B WIs RIs) (X L : List ℕ) (s : State) (t l : List ℕ) (b : Model Stamp Cell)
    (g : Good R s (length t) (length l)) (A : Rel R B WIs RIs X L s t l b) (full : length L ≡ s.head.rows) (v m : ℕ) (cells : List Cell) where
  pub write_number : b.op 0 ≡ open_with v m cells → (call_of R s t l (step 0)).answer ≡ Ok (Moved (m + 1))
  write_number e = (call_rel R B WIs RIs W S X L s t l b g A full (step 0)).answer_is ∙ ap (λ (x : Told Stamp Cell). x.answer) (write_told B s.head.n s.head.rows b _ (sym (A.retired_are 0 (omega arith))) e)

  pub read_number : (p : ℕ) → 1 ≤ p → p ≤ s.head.n → b.retired p ≡ false → b.op p ≡ open_with v m cells → (call_of R s t l (step p)).answer ≡ Ok (Moved (m + 1))
  read_number p p1 pn free e =
      (call_rel R B WIs RIs W S X L s t l b g A full (step p)).answer_is ∙ ap (λ (x : Told Stamp Cell). x.answer) (read_told B s.head.n s.head.rows b p _ p1 pn free e)
