-- The first number that passes a test.
use Prim.Native.Nat.{ℕ, suc, zero, ◌≤◌, ◌<◌, ◌+◌, ◌-◌}
use native.Mathlib.Omega.{arith}
use native.Mathlib.Decide.{ℕ_discrete, dec_lt}
use mathlib.Core.Path.{◌≡◌, refl}
use mathlib.Core.Bool.{Bool, true, false, not}
use native.Mathlib.Numerals.{add-one}
use lib.Dec.{T, T_not}
use Rattle.words.proofs.Laws.Choice.{pick_T}
use Rattle.history.specs.Search.{first}

module _ (f : ℕ → Bool) where
  pub first_ge : (lo n : ℕ) → lo ≤ first f lo n
  unfolding first
  first_ge lo zero = omega arith
  first_ge lo (suc n) = pick_T (λ z. lo ≤ z) (f lo) (λ _. omega arith) (λ _. omega (arith, first_ge (suc lo) n))

  pub first_le : (lo n : ℕ) → first f lo n ≤ lo + n
  unfolding first
  first_le lo zero = omega arith
  first_le lo (suc n) = pick_T (λ z. z ≤ lo + suc n) (f lo) (λ _. omega arith) (λ _. omega (arith, first_le (suc lo) n))

  pub first_passes : (lo n : ℕ) → first f lo n < lo + n → T (f (first f lo n))
  unfolding first
  first_passes lo zero = λ l. absurd (omega arith)
  first_passes lo (suc n) = pick_T (λ z. z < lo + suc n → T (f z)) (f lo) (λ t _. t) (λ _ l. first_passes (suc lo) n (omega arith))

  pub first_least : (lo n q : ℕ) → lo ≤ q → q < lo + n → T (f q) → first f lo n ≤ q
  unfolding first
  first_least lo zero q a b t = absurd (omega arith)
  first_least lo (suc n) q a b t =
      pick_T (λ z. z ≤ q) (f lo) (λ _. a) (λ g. first_least (suc lo) n q (later g (ℕ_discrete lo q)) (omega arith) t)
    where
      later : T (not (f lo)) → Dec (lo ≡ q) → suc lo ≤ q
      later g (yes e) = absurd (T_not (f lo) g (rw e t))
      later g (no n) = omega arith

  -- It is e, where e passes and nothing before it does.
  pub first_is : (lo n e : ℕ) → lo ≤ e → e < lo + n → T (f e) → ((j : ℕ) → lo ≤ j → j < e → T (f j) → ⊥) → first f lo n ≡ e
  first_is lo n e a b t g = go (dec_lt (first f lo n) e)
    where
      go : Dec (first f lo n < e) → first f lo n ≡ e
      go (yes c) = absurd (g (first f lo n) (first_ge lo n) c (first_passes lo n (omega arith)))
      go (no c) = omega (arith, first_least lo n e a b t)

  -- As a loop over q below hi looks for it.
  pub first_hit : (q hi : ℕ) → q < hi → f q ≡ true → first f q (hi - q) ≡ q
  first_hit q hi a e = first_is q (hi - q) q (omega arith) (omega arith) (rw e tt) (λ j b c _. omega arith)

  first_suc : (q n : ℕ) → T (not (f q)) → first f q (suc n) ≡ first f (suc q) n
  unfolding first
  first_suc q n t = pick_T (λ z. z ≡ first f (suc q) n) (f q) (λ u. absurd (T_not (f q) t u)) (λ _. refl)

  pub first_miss : (q hi : ℕ) → q < hi → f q ≡ false → first f q (hi - q) ≡ first f (q + 1) (hi - (q + 1))
  first_miss q hi a x =
      let e : hi - q ≡ suc (hi - suc q) = omega arith in
      rw (e, add-one) (first_suc q (hi - suc q) (rw x tt))

  pub first_end : (q hi : ℕ) → hi ≤ q → first f q (hi - q) ≡ q
  unfolding first
  first_end q hi a = let e : hi - q ≡ 0 = omega arith in rw e
