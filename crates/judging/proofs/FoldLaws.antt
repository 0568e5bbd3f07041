-- The fold over rows, in the loops' direction.
use Prim.Native.Nat.{ℕ, suc, zero, ◌≤◌, ◌<◌, ◌+◌}
use native.Mathlib.Omega.{arith}
use native.Mathlib.Numerals.{add-one}
use mathlib.Core.Path.{◌≡◌, refl, ap}
use Rattle.judging.specs.Fold.{up_to}

pub up_to_one : {A : Type 0} (f : A → ℕ → A) (s : A) → up_to f s 1 ≡ s
unfolding up_to
up_to_one f s = refl

pub up_to_suc : {A : Type 0} (f : A → ℕ → A) (s : A) (k : ℕ) → 0 < k → up_to f s (k + 1) ≡ f (up_to f s k) k
unfolding up_to
up_to_suc f s zero a = absurd (omega arith)
up_to_suc f s (suc k) a = ap (up_to f s) (add-one (suc k))

-- induction over the rows 1 .. n
pub rows_ind : (P : ℕ → Type 0) (n : ℕ) → P 1 → ((k : ℕ) → 0 < k → k < n → P k → P (k + 1)) → (k : ℕ) → 0 < k → k ≤ n → P k
rows_ind P n s f zero a b = absurd (omega arith)
rows_ind P n s f (suc zero) a b = s
rows_ind P n s f (suc (suc k)) a b = rw (← add-one (suc k)) (f (suc k) (omega arith) (omega arith) (rows_ind P n s f (suc k) (omega arith) (omega arith)))
