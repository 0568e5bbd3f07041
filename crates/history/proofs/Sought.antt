-- The sweep's placement is no lower than the floor, and what it finds in time is a source.
use Prim.Native.Nat.{ℕ, ◌≤◌, ◌<◌, ◌-◌}
use native.Mathlib.Omega.{arith}
use lib.Dec.{T}
use Rattle.history.specs.History.{History}
use Rattle.history.proofs.Search.{first_ge, first_passes}
use Rattle.history.specs.Sweep.{is_source, place_at, floor, place}

module _ (h : History) where
  pub place_ge : (r : ℕ) → floor h r ≤ place h r
  unfolding place place_at
  place_ge r = first_ge (is_source h _) _ _

  pub place_good : (r : ℕ) → place h r < h.end r → T (is_source h (h.end r) (place h r))
  unfolding place place_at
  place_good r l = first_passes (is_source h _) _ _ (omega (arith, first_ge (is_source h (h.end r)) (floor h r) (h.end r - floor h r)))
