-- A function with one value replaced.
use Prim.Native.Nat.{ℕ, suc}
use mathlib.Core.Path.{◌≡◌, refl, sym, subst}
use mathlib.Core.Logic.{◌≢◌}
use native.Mathlib.Decide.{ℕ_discrete}
use native.Mathlib.Omega.{arith}
use Rattle.words.specs.Update.{upd}

-- what holds of the new value at its place, and of the old ones at all others, holds everywhere
pub upd_elim : {A : Type 0} (Q : ℕ → A → Type 0) (f : ℕ → A) (i : ℕ) (v : A) → Q i v
    → ((j : ℕ) → j ≢ i → Q j (f j)) → (j : ℕ) → Q j (upd f i v j)
unfolding upd
upd_elim Q f i v same rest j =
    elim (ℕ_discrete j i) as (λ d. Q j (elim d [ yes _ ↦ v | no _ ↦ f j ])) [
      | yes e ↦ subst (λ (k : ℕ). Q k v) (sym e) same
      | no h ↦ rest j h
    ]

pub upd_same : {A : Type 0} (f : ℕ → A) (i : ℕ) (v : A) → upd f i v i ≡ v
upd_same f i v = upd_elim (λ j y. j ≡ i → y ≡ v) f i v (λ _. refl) (λ j h e. absurd (h e)) i refl

pub upd_other : {A : Type 0} (f : ℕ → A) (i : ℕ) (v : A) (j : ℕ) → j ≢ i → upd f i v j ≡ f j
upd_other f i v j = upd_elim (λ k y. k ≢ i → y ≡ f k) f i v (λ h. absurd (h refl)) (λ k h _. refl) j

-- behind a replaced first value
pub upd_first : {A : Type 0} (f : ℕ → A) (v : A) (j : ℕ) → upd f 0 v (suc j) ≡ f (suc j)
upd_first f v j = upd_other f 0 v (suc j) (omega arith)

-- a value replaced by itself
pub upd_own : {A : Type 0} (f : ℕ → A) (i j : ℕ) → upd f i (f i) j ≡ f j
upd_own f i = upd_elim (λ j y. y ≡ f j) f i (f i) refl (λ j _. refl)
