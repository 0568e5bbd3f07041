-- What is known where questions 4, 5 and 13 are passed, and what comes of a call where one is not.
use Prim.Native.Nat.{ℕ, ◌≤◌, ◌<◌}
use mathlib.Core.Path.{◌≡◌, refl, sym, ap, ◌∙◌}
use mathlib.Core.Bool.{Bool, true, false}
use mathlib.Core.List.{List}
use native.Mathlib.Omega.{arith}
use lib.Dec.{leb}
use lib.ListN.{length}
use borrow.Author.Tests.{leb-true}
use Rattle.words.specs.Choice.{pick}
use Rattle.words.proofs.Laws.Choice.{left, right, never}
use Rattle.common.specs.declared.State.{State}
use Rattle.common.specs.declared.Refusal.{Refusal}
use Rattle.common.specs.declared.Refusal.TheVariants.{Range, Processor, Retired}
use Rattle.common.specs.Head.{is_processor}
use Rattle.common.specs.State.{is_retired}
use Rattle.common.specs.Rules.{Rules, state_ok}
use Rattle.common.specs.SetUp.{Outcome, refused}
use Rattle.common.specs.Register.{in_range, as_processor}
use Rattle.common.proofs.Range.{test_range}
use Rattle.std.specs.Prelude.{Result, Ok, Err}
use Rattle.questions.specs.Asked.{asked_of, Passed}

-- More than 16 readers are out of range.
pub many_readers : (R : Rules) (s : State) (cells log : ℕ) → 16 < s.head.n → false ≡ state_ok R s cells log
many_readers R s cells log h = at (state_ok R s cells log) refl
  where
    at : (b : Bool) → state_ok R s cells log ≡ b → false ≡ b
    at false e = refl
    at true e = absurd (omega (arith, (test_range R s cells log e).head_good.n_high))

pub processor_high : (s : State) (least p : ℕ) → is_processor s.head least p ≡ true → p ≤ s.head.n
processor_high s least p e = leb-true p s.head.n (right (leb least p) _ e)

-- the questions' answer
abbrev Asked : Type 0
Asked = Result (Unit {0}) Refusal

abbrev is_yes : Asked → Bool
is_yes (Ok u) = true
is_yes (Err why) = false

pub passed : (R : Rules) (s : State) (cells log least p : ℕ) → Ok tt ≡ asked_of R s cells log least p → Passed R s cells log least p
passed R s cells log least p e =
    by (state_ok R s cells log) (is_processor s.head least p) (is_retired s p) refl refl refl (ap is_yes (sym e))
  where
    by : (x y z : Bool) → state_ok R s cells log ≡ x → is_processor s.head least p ≡ y → is_retired s p ≡ z
        → is_yes (pick x (pick y (pick z (Err Retired) (Ok tt)) (Err Processor)) (Err Range)) ≡ true → Passed R s cells log least p
    by true true false ex ey ez q = record {
      is_in_range = test_range R s cells log ex;
      p_low = leb-true least p (left (leb least p) _ ey);
      p_high = processor_high s least p ey;
      free = ez;
    }
    by true true true ex ey ez q = never (sym q)
    by true false z ex ey ez q = never (sym q)
    by false y z ex ey ez q = never (sym q)

module _ (R : Rules) (s : State) (t l : List ℕ) (least p : ℕ) (o : Outcome) where
  -- what the answer leads to
  abbrev after : Asked → Outcome
  after (Ok u) = o
  after (Err why) = refused why s t l

  after_is : after (asked_of R s (length t) (length l) least p) ≡ in_range R s t l (as_processor s t l least p o)
  after_is = by (state_ok R s (length t) (length l)) (is_processor s.head least p) (is_retired s p)
    where
      by : (x y z : Bool) → after (pick x (pick y (pick z (Err Retired) (Ok tt)) (Err Processor)) (Err Range))
          ≡ pick x (pick y (pick z (refused Retired s t l) o) (refused Processor s t l)) (refused Range s t l)
      by true true true = refl
      by true true false = refl
      by true false z = refl
      by false y z = refl

  pub goes_on : Ok tt ≡ asked_of R s (length t) (length l) least p → o ≡ in_range R s t l (as_processor s t l least p o)
  goes_on e = ap after e ∙ after_is

  pub turned_down : (why : Refusal) → Err why ≡ asked_of R s (length t) (length l) least p
      → refused why s t l ≡ in_range R s t l (as_processor s t l least p o)
  turned_down why e = ap after e ∙ after_is
