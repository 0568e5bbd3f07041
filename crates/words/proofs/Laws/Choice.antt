-- What a choice gives, how to reason by its test, and what tests say.
use Prim.Native.Nat.{ℕ, ◌≤◌, ◌<◌}
use mathlib.Core.Path.{◌≡◌, refl, sym, subst}
use native.Mathlib.Omega.{arith}
use mathlib.Core.Logic.{◌≢◌}
use mathlib.Core.Bool.{Bool, true, false, not, ◌&&◌}
use lib.Dec.{T, eqb, leb, ltb, eqb_refl}
use borrow.Author.Tests.{ltb-true, ltb-false, leb-true, leb-false, eqb-true, eqb-false}
use Rattle.words.specs.Choice.{pick}

pub pick_yes : {A : Type 0} (t : Bool) (a b : A) → t ≡ true → pick t a b ≡ a
pick_yes t a b e = rw e

pub pick_no : {A : Type 0} (t : Bool) (a b : A) → t ≡ false → pick t a b ≡ b
pick_no t a b e = rw e

-- what holds of both choices, each under its test, holds of the chosen one
pub pick_ind : {A : Type 0} (P : A → Type 0) (t : Bool) (a b : A) → (t ≡ true → P a) → (t ≡ false → P b) → P (pick t a b)
pick_ind P true a b f g = f refl
pick_ind P false a b f g = g refl

pub pick_T {ℓ κ} : {A : Type ℓ} (P : A → Type κ) (t : Bool) {a b : A} → (T t → P a) → (T (not t) → P b) → P (pick t a b)
pick_T P true f g = f tt
pick_T P false f g = g tt

pub lt_ind : {A : Type 0} (P : A → Type 0) (m n : ℕ) (a b : A) → (m < n → P a) → (n ≤ m → P b) → P (pick (ltb m n) a b)
lt_ind P m n a b f g = pick_ind P (ltb m n) a b (λ e. f (ltb-true m n e)) (λ e. g (ltb-false m n e))

pub le_ind : {A : Type 0} (P : A → Type 0) (m n : ℕ) (a b : A) → (m ≤ n → P a) → (n < m → P b) → P (pick (leb m n) a b)
le_ind P m n a b f g = pick_ind P (leb m n) a b (λ e. f (leb-true m n e)) (λ e. g (leb-false m n e))

pub eq_ind : {A : Type 0} (P : A → Type 0) (m n : ℕ) (a b : A) → (m ≡ n → P a) → (m ≢ n → P b) → P (pick (eqb m n) a b)
eq_ind P m n a b f g = pick_ind P (eqb m n) a b (λ e. f (eqb-true m n e)) (λ e. g (eqb-false m n e))

-- two choices by one test, and by tests that agree
pub pick_two : {A B : Type 0} (P : A → B → Type 0) (t : Bool) (a b : A) (c d : B) → (t ≡ true → P a c) → (t ≡ false → P b d)
    → P (pick t a b) (pick t c d)
pick_two P true a b c d f g = f refl
pick_two P false a b c d f g = g refl

pub pick_both : {A B : Type 0} (P : A → B → Type 0) (t u : Bool) (a b : A) (c d : B) → t ≡ u → (t ≡ true → P a c)
    → (t ≡ false → P b d) → P (pick t a b) (pick u c d)
pick_both P t u a b c d e f g = subst (λ (z : Bool). P (pick t a b) (pick z c d)) e (pick_two P t a b c d f g)

pub lt_two : {A B : Type 0} (P : A → B → Type 0) (m n : ℕ) (a b : A) (c d : B) → (m < n → P a c) → (n ≤ m → P b d)
    → P (pick (ltb m n) a b) (pick (ltb m n) c d)
lt_two P m n a b c d f g = pick_two P (ltb m n) a b c d (λ e. f (ltb-true m n e)) (λ e. g (ltb-false m n e))

pub eq_two : {A B : Type 0} (P : A → B → Type 0) (m n : ℕ) (a b : A) (c d : B) → (m ≡ n → P a c) → (m ≢ n → P b d)
    → P (pick (eqb m n) a b) (pick (eqb m n) c d)
eq_two P m n a b c d f g = pick_two P (eqb m n) a b c d (λ e. f (eqb-true m n e)) (λ e. g (eqb-false m n e))

-- tests as equations
pub never : {A : Type 0} → true ≡ false → A
never e = let z : ◌≡◌ {A = ℕ} 0 1 = cc in absurd (omega arith)

pub left : (a b : Bool) → (a && b) ≡ true → a ≡ true
left true b e = refl
left false b e = never (sym e)

pub right : (a b : Bool) → (a && b) ≡ true → b ≡ true
right true b e = e
right false b e = never (sym e)

pub both : (a b : Bool) → a ≡ true → b ≡ true → (a && b) ≡ true
both a b e f = rw (e, f)

-- a test that passes, as a type and as an equation
pub eq→T : (m n : ℕ) → m ≡ n → T (eqb m n)
eq→T m n e = rw e (eqb_refl n)

pub and_T : (a b : Bool) → T a → T b → T (a && b)
and_T true b x y = y
and_T false b x y = elim x [ ]

pub T-left : (a b : Bool) → T (a && b) → T a
T-left true b x = tt
T-left false b x = elim x [ ]

pub T-right : (a b : Bool) → T (a && b) → T b
T-right true b x = x
T-right false b x = elim x [ ]

pub T→true : (b : Bool) → T b → b ≡ true
T→true true t = refl
T→true false t = elim t [ ]

pub not→false : (b : Bool) → (T b → ⊥) → b ≡ false
not→false true f = absurd (f tt)
not→false false f = refl
