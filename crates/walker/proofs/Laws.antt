-- What callers use in place of the text of `step_at`.
use Prim.Native.Nat.{ℕ, ◌+◌, ◌<◌, ◌≤◌}
use mathlib.Core.Path.{◌≡◌}
use mathlib.Core.List.{List}
use borrow.Author.Tests.{lt-ltb, le-ltb}
use lib.ListN.{length, get_or}
use Rattle.walker.specs.Walk.{step_at}

-- inside the log: the row, and the number behind it
pub step_inside : (log : List ℕ) (k : ℕ) → k < length log → step_at log k ≡ record { row = get_or log k 0; next = k + 1 }
unfolding step_at
step_inside log k inside = rw (lt-ltb k (length log) inside)

-- at the end of the log: no row, and the number stays
pub step_behind : (log : List ℕ) (k : ℕ) → length log ≤ k → step_at log k ≡ record { row = 0; next = k }
unfolding step_at
step_behind log k behind = rw (le-ltb k (length log) behind)
