-- The floors of the sweep, by their recursion.
use Prim.Native.Nat.{ℕ, suc, zero, ◌≤◌, max}
use native.Mathlib.Omega.{arith}
use mathlib.Core.Path.{◌≡◌, refl, ◌∙◌}
use mathlib.Core.List.{[]}
use native.Mathlib.Decide.{ℕ_discrete}
use lib.ListN.{length, get_or, length-append, get_or-append}
use lib.Seq.{get_or_at}
use Rattle.history.specs.History.{History}
use Rattle.history.specs.Sweep.{adds, floors, floor}

pub length_floors : (h : History) (k : ℕ) → length (floors h k) ≡ suc k
unfolding floors
length_floors h zero = refl
length_floors h (suc k) = rw length-append (omega (arith, length_floors h k))

floors_below : (h : History) (k j : ℕ) → j ≤ k → get_or (floors h (suc k)) j 0 ≡ get_or (floors h k) j 0
unfolding floors
floors_below h k j b = get_or-append (floors h k) _ 0 j (omega (arith, length_floors h k))

pub floors_at : (h : History) (k j : ℕ) → j ≤ k → get_or (floors h k) j 0 ≡ floor h j
unfolding floor
floors_at h zero j a = let e : j ≡ 0 = omega arith in rw e
floors_at h (suc k) j a = cases (ℕ_discrete j (suc k)) (floors_at h k j)
  where
    cases : Dec (j ≡ suc k) → (j ≤ k → get_or (floors h k) j 0 ≡ get_or (floors h j) j 0) → get_or (floors h (suc k)) j 0 ≡ get_or (floors h j) j 0
    cases (yes e) f = rw e
    cases (no n) f = floors_below h k j (omega arith) ∙ f (omega arith)

pub floor_suc : (h : History) (k : ℕ) → h.begin k ≤ k → floor h (suc k) ≡ max (floor h k) (adds h (floor h (h.begin k)) k)
unfolding floors floor
floor_suc h k b = rw (← floors_at h k (h.begin k) b) (get_or_at (floors h k) _ [] 0 (suc k) (length_floors h k))
