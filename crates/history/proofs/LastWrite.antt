-- The last write among the first entries of a list.
use Prim.Native.Nat.{ℕ, suc, zero, ◌≤◌, ◌<◌}
use native.Mathlib.Omega.{arith}
use native.Mathlib.Decide.{ℕ_discrete}
use mathlib.Core.Path.{◌≡◌, refl}
use mathlib.Core.Bool.{not}
use mathlib.Core.Logic.{◌⊎◌, inl, inr}
use mathlib.Core.List.{List, [], ◌∷◌}
use lib.Dec.{T, T_not, eqb, eqb→eq}
use lib.ListN.{length, get_or}
use Rattle.history.specs.History.{History}
use Rattle.words.proofs.Laws.Choice.{pick_T, eq→T}
use Rattle.history.specs.Linearization.{Stands, position_in, last_write}

pub position_at : (l : List ℕ) (i x : ℕ) → Stands l i x → Stands l (position_in l x) x
unfolding position_in
position_at [] i x s = absurd (omega arith)
position_at (y ∷ l) zero x s =
    pick_T (λ z. Stands (y ∷ l) z x) (eqb y x) (λ _. s) (λ f. absurd (T_not (eqb y x) f (eq→T y x s.there)))
position_at (y ∷ l) (suc i) x s =
    pick_T (λ z. Stands (y ∷ l) z x) (eqb y x)
    (λ t. record { within = omega arith; there = eqb→eq _ _ t })
    (λ _. let k = position_at l i x (record { within = omega arith; there = s.there }) in record { within = omega arith; there = k.there })

module _ (h : History) (l : List ℕ) where
  -- It is row 0 or a write that stands there.
  pub last_write_is : (i : ℕ) → i ≤ length l → (last_write h l i ≡ 0) ⊎ ((j : ℕ) × (j < i) × Stands l j (last_write h l i) × (h.kind (last_write h l i) ≡ 1))
  unfolding last_write
  last_write_is zero a = inl refl
  last_write_is (suc i) a =
      pick_T (λ z. (z ≡ 0) ⊎ ((j : ℕ) × (j < suc i) × Stands l j z × (h.kind z ≡ 1))) (eqb (h.kind (get_or l i 0)) 1)
      (λ t. inr (i, omega arith, record { within = omega arith; there = refl }, eqb→eq _ _ t))
      (λ _. wider (last_write_is i (omega arith)))
    where
      wider : (last_write h l i ≡ 0) ⊎ ((j : ℕ) × (j < i) × Stands l j (last_write h l i) × (h.kind (last_write h l i) ≡ 1))
          → (last_write h l i ≡ 0) ⊎ ((j : ℕ) × (j < suc i) × Stands l j (last_write h l i) × (h.kind (last_write h l i) ≡ 1))
      wider (inl e) = inl e
      wider (inr t) = inr (t.0, omega arith, t.2, t.3)

  -- It is at least each write that stands there, where the writes rise.
  pub last_write_ge : ((i j a b : ℕ) → Stands l i a → Stands l j b → h.kind a ≡ 1 → h.kind b ≡ 1 → i < j → a ≤ b)
      → (i j w : ℕ) → i ≤ length l → j < i → Stands l j w → h.kind w ≡ 1 → w ≤ last_write h l i
  unfolding last_write
  last_write_ge rise zero j w a b s e = absurd (omega arith)
  last_write_ge rise (suc i) j w a b s e =
      pick_T (λ z. w ≤ z) (eqb (h.kind (get_or l i 0)) 1)
      (λ t. newer t (ℕ_discrete j i))
      (λ f. older f (ℕ_discrete j i) (λ c. last_write_ge rise i j w (omega arith) c s e))
    where
      newer : T (eqb (h.kind (get_or l i 0)) 1) → Dec (j ≡ i) → w ≤ get_or l i 0
      newer t (yes d) = rw (← d) (omega arith)
      newer t (no n) = rise j i w (get_or l i 0) s (record { within = omega arith; there = refl }) e (eqb→eq _ _ t) (omega arith)

      older : T (not (eqb (h.kind (get_or l i 0)) 1)) → Dec (j ≡ i) → (j < i → w ≤ last_write h l i) → w ≤ last_write h l i
      older f (yes d) g = absurd (T_not (eqb (h.kind (get_or l i 0)) 1) f (rw (← d, s.there, e) tt))
      older f (no n) g = g (omega arith)
