-- A fold over the rows 1 .. k - 1.
use Rattle.std.specs.Prelude.{ℕ, suc, zero}

unfoldable pub up_to : {A : Type 0} → (A → ℕ → A) → A → ℕ → A
up_to f s zero = s
up_to f s (suc zero) = s
up_to f s (suc (suc k)) = f (up_to f s (suc k)) (suc k)
