use mathlib.Core.Path.{◌≡◌}
use Prim.Native.Nat.{◌≤◌, ◌+◌}
use Rattle.judging.specs.Answer.{begins_to}
use Rattle.judge.proofs.rows.count_begins.Given as goal

abbrev pub invariant-loop-row : goal.invariant-loop-row
invariant-loop-row l = (l.n ≤ l.row-index) × (l.n ≡ begins_to l.rows (l.row-index + 1))
