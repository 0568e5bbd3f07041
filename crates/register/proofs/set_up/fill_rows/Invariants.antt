use Prim.Native.Nat.{◌*◌}
use mathlib.Core.Path.{◌≡◌}
use mathlib.Core.List.{◌++◌}
use lib.ListN.{drop}
use Rattle.register.proofs.FreshLaws.{rows_of}
use Rattle.register.proofs.set_up.fill_rows.Given as goal

abbrev pub invariant-loop-i : goal.invariant-loop-i
invariant-loop-i l = l.table ≡ rows_of l.n l.own l.other l.i ++ drop (l.n * l.i) l.fn.table
