-- The end of an operation: the next row of its processor.
use Prim.Native.Nat.{ℕ, suc, zero, ◌≤◌, ◌<◌, ◌-◌}
use native.Mathlib.Omega.{arith}
use native.Mathlib.Decide.{dec_lt}
use mathlib.Core.Path.{◌≡◌, refl, ◌∙◌}
use mathlib.Core.Bool.{Bool}
use mathlib.Core.Logic.{◌≢◌}
use mathlib.Core.List.{List}
use lib.Dec.{eqb, eqb→eq}
use lib.ListN.{length}
use Rattle.words.proofs.Laws.Choice.{eq→T}
use Rattle.history.proofs.Search.{first_ge, first_le, first_passes, first_least, first_is}
use Rattle.history.specs.Rows.{processor_at}
use Rattle.history.specs.History.{next_of, end_at}

-- e is the next row of b's processor.
pub record Next (log : List ℕ) (b e : ℕ) : Type 0 where
  pub after : b < e
  pub inside : e < length log
  pub same : processor_at log e ≡ processor_at log b
  pub none : (j : ℕ) → b < j → j < e → processor_at log j ≢ processor_at log b

pub fin_is : (log : List ℕ) (b : ℕ) → 0 < b → end_at log b ≡ next_of log (processor_at log b) (suc b) (length log - suc b)
unfolding end_at
fin_is log zero a = absurd (omega arith)
fin_is log (suc k) a = refl

module _ (log : List ℕ) (b : ℕ) (real : 0 < b) where
  test : ℕ → Bool
  test j = eqb (processor_at log j) (processor_at log b)

  pub fin_of : (e : ℕ) → Next log b e → end_at log b ≡ e
  unfolding test
  fin_of e n =
      fin_is log b real
      ∙ first_is test (suc b) (length log - suc b) e n.after (omega arith) (eq→T (processor_at log e) (processor_at log b) n.same)
      (λ j x y z. n.none j x y (eqb→eq (processor_at log j) (processor_at log b) z))

  no_row : (j : ℕ) → b < j → j < length log → j < end_at log b → processor_at log j ≢ processor_at log b
  unfolding test
  no_row j x y z w =
      omega (arith, fin_is log b real, first_least test (suc b) (length log - suc b) j x (omega arith) (eq→T (processor_at log j) (processor_at log b) w))

  pub fin_next : end_at log b < length log → b < length log → Next log b (end_at log b)
  unfolding test
  fin_next a i =
      let g = first_ge test (suc b) (length log - suc b) in
      let q = fin_is log b real in
      record {
        after = omega arith;
        inside = a;
        same = rw q (eqb→eq _ (processor_at log b) (first_passes test (suc b) (length log - suc b) (omega arith)));
        none = λ j x y. no_row j x (omega arith) y;
      }

  pub fin_le : b < length log → end_at log b ≤ length log
  unfolding test
  fin_le a = omega (arith, fin_is log b real, first_le test (suc b) (length log - suc b))

  pub fin_none : length log ≤ end_at log b → (j : ℕ) → b < j → j < length log → processor_at log j ≢ processor_at log b
  fin_none a j x y = no_row j x y (omega arith)

  pub fin_open : b < length log → ((j : ℕ) → b < j → j < length log → processor_at log j ≢ processor_at log b) → end_at log b ≡ length log
  fin_open a f = elim (dec_lt (end_at log b) (length log)) [
    | yes c ↦ let n = fin_next c a in absurd (f (end_at log b) n.after c n.same)
    | no c ↦ omega (arith, fin_le a)
  ]
