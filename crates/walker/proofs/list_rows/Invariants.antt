use Rattle.std.proofs.Common.{◌≡◌, take}
use Rattle.lines.specs.Lines.{rows_text}
use Rattle.lines.specs.Adds.{Adds}
use Rattle.walker.proofs.list_rows.Given as goal

-- the rows before the walker's are listed
abbrev pub invariant-loop-k : goal.invariant-loop-k
invariant-loop-k l = (l.w.next ≡ l.k) × (l.w.log.now ≡ l.log) × Adds (rows_text (take l.k l.log)) l.initial.out l.out
