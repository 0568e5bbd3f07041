-- A function with one value replaced.
use Rattle.std.specs.Prelude.{ℕ}
use Rattle.std.proofs.Math.Decide.{ℕ_discrete}

unfoldable pub upd : {A : Type 0} → (ℕ → A) → ℕ → A → ℕ → A
upd f i v j = elim (ℕ_discrete j i) [ yes _ ↦ v | no _ ↦ f j ]
