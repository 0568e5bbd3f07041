use lib.ListN.{take}
use Rattle.logbytes.specs.Bytes.{bytes_of}
use Rattle.lines.specs.Adds.{Adds}
use Rattle.files.proofs.put_rows.Given as goal

abbrev pub invariant-loop-row : goal.invariant-loop-row
invariant-loop-row l = Adds (bytes_of (take l.row-index l.rows)) l.initial.out l.out
