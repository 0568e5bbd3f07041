use mathlib.Core.Path.{◌≡◌}
use mathlib.Core.List.{◌++◌}
use lib.ListN.{drop}
use Rattle.logbytes.specs.Bytes.{read_rows}
use Rattle.logbytes.proofs.read_rows.Given as goal

abbrev pub invariant-loop-i : goal.invariant-loop-i
invariant-loop-i l = l.rows ≡ read_rows l.i l.bytes ++ drop l.i l.initial.rows
