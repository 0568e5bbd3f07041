-- The writes begun before a row.
use Prim.Native.Nat.{ℕ, suc, zero, ◌≤◌, ◌<◌, ◌+◌, ◌-◌, max}
use native.Mathlib.Omega.{arith}
use native.Mathlib.Numerals.{add-one}
use native.Mathlib.Decide.{dec_lt}
use mathlib.Core.Path.{◌≡◌, refl, ap}
use mathlib.Core.Bool.{Bool, true, false}
use mathlib.Core.List.{List}
use lib.Dec.{eqb}
use lib.ListN.{get_or}
use Rattle.words.specs.Choice.{pick}
use Rattle.history.specs.Rows.{kind_of}
use Rattle.judging.specs.Fold.{up_to}
use Rattle.judging.proofs.FoldLaws.{up_to_one, up_to_suc}
use Rattle.lags.specs.Lag.{with_write, begun_before, rank_of}

-- A row adds one if it begins a write, and nothing else.
pub with_one : (w n : ℕ) → with_write w n ≡ n + pick (eqb (kind_of w) 1) 1 0
unfolding with_write
with_one w n = split (eqb (kind_of w) 1)
  where
    split : (b : Bool) → pick b (n + 1) n ≡ n + pick b 1 0
    split true = refl
    split false = omega arith

with_le : (w n : ℕ) → (n ≤ with_write w n) × (with_write w n ≤ n + 1)
with_le w n = rw (with_one w n) (few (eqb (kind_of w) 1))
  where
    few : (b : Bool) → (n ≤ n + pick b 1 0) × (n + pick b 1 0 ≤ n + 1)
    few true = omega arith
    few false = omega arith

module _ (log : List ℕ) where
  begun_zero : begun_before log 0 ≡ 0
  unfolding begun_before up_to
  begun_zero = refl

  pub begun_one : begun_before log 1 ≡ 0
  unfolding begun_before
  begun_one = up_to_one _ _

  pub begun_suc : (k : ℕ) → 0 < k → begun_before log (k + 1) ≡ with_write (get_or log k 0) (begun_before log k)
  unfolding begun_before
  begun_suc k a = up_to_suc _ _ k a

  begun_up : (k : ℕ) → begun_before log k ≤ begun_before log (k + 1)
  begun_up zero = omega (arith, begun_zero)
  begun_up (suc k) = omega (arith, begun_suc (suc k) (omega arith), with_le (get_or log (suc k) 0) (begun_before log (suc k)))

  -- They grow with the rows,
  begun_more : (j n : ℕ) → begun_before log j ≤ begun_before log (j + n)
  begun_more j zero = let e : j + 0 ≡ j = omega arith in rw e (omega arith)
  begun_more j (suc n) = let e : j + suc n ≡ j + n + 1 = omega arith in rw e (omega (arith, begun_more j n, begun_up (j + n)))

  begun_mono : {j k : ℕ} → j ≤ k → begun_before log j ≤ begun_before log k
  begun_mono {j} {k} a = let e : j + (k - j) ≡ k = omega arith in omega (arith, begun_more j (k - j), ap (begun_before log) e)

  -- and are no more than these.
  pub begun_few : (k : ℕ) → begun_before log k ≤ k
  begun_few zero = omega (arith, begun_zero)
  begun_few (suc zero) = omega (arith, begun_one)
  begun_few (suc (suc k)) =
      rw (← add-one (suc k)) (omega (arith, begun_few (suc k), begun_suc (suc k) (omega arith), with_le (get_or log (suc k) 0) (begun_before log (suc k))))

  -- The start's rank is 0.
  pub rank_start : rank_of log 0 ≡ 0
  unfolding rank_of
  rank_start = begun_one

  pub rank_mono : {p q : ℕ} → p ≤ q → rank_of log p ≤ rank_of log q
  unfolding rank_of
  rank_mono a = begun_mono (omega arith)

  pub rank_max : (p q : ℕ) → rank_of log (max p q) ≡ max (rank_of log p) (rank_of log q)
  rank_max p q = elim (dec_lt p q) [
    | yes a ↦ let e : max p q ≡ q = omega arith in omega (arith, ap (rank_of log) e, rank_mono {p = p} {q = q} (omega arith))
    | no a ↦ let e : max p q ≡ p = omega arith in omega (arith, ap (rank_of log) e, rank_mono {p = q} {q = p} (omega arith))
  ]

  pub rank_few : (q : ℕ) → rank_of log q ≤ q + 1
  unfolding rank_of
  rank_few q = begun_few (q + 1)

  pub rank_suc : (q : ℕ) → rank_of log (q + 1) ≡ with_write (get_or log (q + 1) 0) (rank_of log q)
  unfolding rank_of
  rank_suc q = begun_suc (q + 1) (omega arith)

  -- A write before a row is among those begun before it.
  pub rank_before : {q k : ℕ} → q < k → rank_of log q ≤ begun_before log k
  unfolding rank_of
  rank_before a = begun_mono (omega arith)
