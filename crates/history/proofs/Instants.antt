-- An order gives instants.
use Prim.Native.Nat.{ℕ, zero, suc, ◌+◌, ◌*◌, ◌≤◌, ◌<◌, max}
use mathlib.Core.Path.{◌≡◌, refl, ap}
use mathlib.Core.Logic.{◌⊎◌, inl, inr, ◌≢◌}
use mathlib.Core.List.{List}
use native.Mathlib.Nat.{mul-le-mul_right}
use native.Mathlib.Decide.{dec_lt, ℕ_discrete}
use native.Mathlib.Omega.{arith}
use lib.ListN.{get_or}
use Rattle.history.specs.History.{History, Write, Read}
use Rattle.history.specs.Linearization.{Stands, Linearization}
use Rattle.history.specs.Instants.{unit, Instants}
use Rattle.history.proofs.Placement.{Laws}

-- the largest of the first i + 1 of l
highest : List ℕ → ℕ → ℕ
highest l zero = get_or l 0 0
highest l (suc i) = max (highest l i) (get_or l (suc i) 0)

highest_own : (l : List ℕ) (i : ℕ) → get_or l i 0 ≤ highest l i
unfolding highest
highest_own l zero = omega arith
highest_own l (suc i) = omega arith

highest_up : (l : List ℕ) (i j : ℕ) → i ≤ j → highest l i ≤ highest l j
unfolding highest
highest_up l i zero a = let e : i ≡ 0 = omega arith in rw e (omega arith)
highest_up l i (suc j) a = elim (ℕ_discrete i (suc j)) [
  | yes e ↦ rw e (omega arith)
  | no n ↦ omega (arith, highest_up l i j (omega arith))
]

highest_below : (l : List ℕ) (b i : ℕ) → ((j : ℕ) → j ≤ i → get_or l j 0 < b) → highest l i < b
unfolding highest
highest_below l b zero f = f 0 (omega arith)
highest_below l b (suc i) f = omega (arith, highest_below l b i (λ j a. f j (omega arith)), f (suc i) (omega arith))

-- between the largest begin row so far and the next row, in the order of l
pub instant_of : List ℕ → ℕ → ℕ
instant_of l i = highest l i * unit l + suc i

module _ (h : History) (L : Laws h) (m : ℕ) (l : List ℕ) (O : Linearization h m l) where
  -- an operation begins before it ends
  spans : (x : ℕ) → Write h x ⊎ Read h m x → x < h.end x
  spans x (inl w) = omega (arith, L.write_end x w.is w.real)
  spans x (inr r) = omega (arith, L.read_end x r.is)

  -- no row is a begin and an end
  ends_apart : (x y : ℕ) → Write h x ⊎ Read h m x → Write h y ⊎ Read h m y → h.end x ≢ y
  ends_apart x y (inl w) (inl v) e =
      absurd (omega (arith, ap h.kind e, v.is, L.write y v.is, L.write_done x w.is w.real (omega (arith, L.write y v.is))))
  ends_apart x y (inl w) (inr r) e =
      absurd (omega (arith, ap h.kind e, r.is, L.read_end y r.is, L.write_done x w.is w.real (omega (arith, L.read_end y r.is, r.ended))))
  ends_apart x y (inr r) (inl v) e = absurd (omega (arith, ap h.kind e, v.is, L.read_done x r.is r.ended))
  ends_apart x y (inr r) (inr q) e = absurd (omega (arith, ap h.kind e, q.is, L.read_done x r.is r.ended))

  -- what stands no later in the order begins before this one ends
  begins_before : (i j x y : ℕ) → Stands l i x → Stands l j y → j ≤ i → y < h.end x
  begins_before i j x y s t a = go (dec_lt (h.end x) y)
    where
      go : Dec (h.end x < y) → y < h.end x
      go (yes b) = absurd (omega (arith, O.respects i j x y s t b))
      go (no b) = omega (arith, ends_apart x y (O.only i x s) (O.only j y t))

  here : (i x : ℕ) → Stands l i x → (j : ℕ) → j ≤ i → Stands l j (get_or l j 0)
  here i x s j a = record { within = omega (arith, s.within); there = refl }

  highest_inside : (i x : ℕ) → Stands l i x → highest l i < h.end x
  highest_inside i x s = highest_below l (h.end x) i (λ j a. begins_before i j x (get_or l j 0) s (here i x s j a) a)

  pub order_instants : Instants h l (instant_of l)
  unfolding instant_of
  order_instants = record {
    after = λ i x s. omega (arith, mul-le-mul_right (unit l) (own i x s));
    before = λ i x s. omega (arith, mul-le-mul_right (unit l) (highest_inside i x s), s.within);
    rising = λ i j a b. omega (arith, mul-le-mul_right (unit l) (highest_up l i j (omega arith)));
  }
    where
      own : (i x : ℕ) → Stands l i x → x ≤ highest l i
      own i x s = omega (arith, highest_own l i, s.there)
