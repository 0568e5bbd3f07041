-- Splits on two numbers.
use Prim.Native.Nat.{ℕ, ◌≤◌, ◌<◌}
use mathlib.Core.Path.{◌≡◌}
use mathlib.Core.Logic.{◌≢◌, ◌⊎◌, inl, inr}
use native.Mathlib.Decide.{ℕ_discrete, dec_lt}
use native.Mathlib.Omega.{arith}

pub eq_or : (i j : ℕ) → (i ≡ j) ⊎ (i ≢ j)
eq_or i j = elim (ℕ_discrete i j) [ yes e ↦ inl e | no h ↦ inr h ]

pub lt_or : (i j : ℕ) → (i < j) ⊎ (j ≤ i)
lt_or i j = elim (dec_lt i j) [ yes e ↦ inl e | no h ↦ inr (omega arith) ]
