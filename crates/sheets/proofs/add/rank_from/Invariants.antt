use mathlib.Core.Path.{◌≡◌}
use Prim.Native.Nat.{◌≤◌, max}
use Rattle.lags.specs.Lag.{rank_of}
use Rattle.sheets.proofs.add.rank_from.Given as goal

abbrev pub invariant-loop-j : goal.invariant-loop-j
invariant-loop-j l = (l.j ≤ max l.f l.q) × (l.n ≡ rank_of l.rows l.j)
