use Rattle.lines.specs.Adds.{Adds}
use Rattle.printing.specs.Sheet.{reader_lines}
use Rattle.prints.proofs.sheet.put_readers.Given as goal

abbrev pub invariant-loop-i : goal.invariant-loop-i
invariant-loop-i l = Adds (reader_lines l.lines l.i) l.initial.out l.out
