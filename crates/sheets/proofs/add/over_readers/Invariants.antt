use mathlib.Core.Path.{◌≡◌}
use Prim.Native.Nat.{◌≤◌, ◌*◌, ◌^◌}
use Rattle.lags.specs.Sheet.{over_readers, line_at}
use Rattle.sheets.proofs.add.over_readers.Given as goal

abbrev pub invariant-loop-i : goal.invariant-loop-i
invariant-loop-i l =
    (l.reads ≤ l.i * 2 ^ 32) × (l.lags ≤ l.i * 2 ^ 32)
    × (l.reads ≡ over_readers (λ j. (line_at l.lines j).reads) l.i)
    × (l.lags ≡ over_readers (λ j. (line_at l.lines j).lags) l.i)
