-- Sums over the readers.
use Prim.Native.Nat.{ℕ, zero, suc, ◌+◌, ◌<◌}
use mathlib.Core.Path.{◌≡◌, refl, sym}
use mathlib.Core.Logic.{◌≢◌}
use native.Mathlib.Omega.{arith}
use native.Mathlib.Decide.{ℕ_discrete}

unfoldable pub sum : ℕ → (ℕ → ℕ) → ℕ
sum zero f = 0
sum (suc k) f = sum k f + f k

pub sum_same : (k : ℕ) (f g : ℕ → ℕ) → ((i : ℕ) → i < k → f i ≡ g i) → sum k f ≡ sum k g
unfolding sum
sum_same zero f g h = refl
sum_same (suc k) f g h = omega (arith, sum_same k f g (λ i l. h i (omega arith)), h k (omega arith))

pub sum_none : (k : ℕ) (f : ℕ → ℕ) → ((i : ℕ) → i < k → f i ≡ 0) → sum k f ≡ 0
unfolding sum
sum_none zero f h = refl
sum_none (suc k) f h = omega (arith, sum_none k f (λ i l. h i (omega arith)), h k (omega arith))

-- Two that differ at i alone.
pub sum_one : (k : ℕ) (f g : ℕ → ℕ) (i : ℕ) → i < k → ((j : ℕ) → j < k → j ≢ i → f j ≡ g j) → sum k f + g i ≡ sum k g + f i
unfolding sum
sum_one zero f g i l h = absurd (omega arith)
sum_one (suc k) f g i l h = elim (ℕ_discrete i k) [
  | yes e ↦ rw e (omega (arith, sum_same k f g (λ j m. h j (omega arith) (λ q. omega arith))))
  | no e ↦ omega (arith, sum_one k f g i (omega arith) (λ j m. h j (omega arith)), h k (omega arith) (λ q. e (sym q)))
]
