use mathlib.Core.Path.{◌≡◌}
use Prim.Native.Nat.{◌-◌, ◌≤◌, max}
use Rattle.history.specs.Search.{first}
use Rattle.history.specs.Sweep.{is_source}
use Rattle.history.specs.History.{history_of}
use Rattle.judge.proofs.sweep.seek.Given as goal

abbrev pub invariant-loop-q : goal.invariant-loop-q
invariant-loop-q l =
    (l.q ≤ max l.lo l.k) × (first (is_source (history_of l.rows) l.k) l.lo (l.k - l.lo) ≡ first (is_source (history_of l.rows) l.k) l.q (l.k - l.q))
