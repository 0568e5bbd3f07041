-- The line of the judge's verdict, and what is printed of a log as bytes.
use Rattle.std.specs.Prelude.{ℕ, ◌%◌, List, eqb, length}
use Rattle.words.specs.Choice.{pick}
use Rattle.logbytes.specs.Bytes.{rows_of}
use Rattle.judging.specs.Answer.{cases}
use Rattle.lines.specs.Lines.{refused_line, no_order_line, order_line}

-- "At the end `order` and the begin rows, or `no order` and the row." A no to another question is `refused` and its number. There are
-- places for every order.
unfoldable pub verdict_line : List ℕ → List ℕ
verdict_line rows = cases rows 4096 refused_line no_order_line order_line

-- what is printed of a log's rows, for "the log as bytes": "a length not a multiple of 8 is 9"
unfoldable pub from_bytes : (List ℕ → List ℕ) → List ℕ → List ℕ
from_bytes print bytes = pick (eqb (length bytes % 8) 0) (print (rows_of bytes)) (refused_line 9)

-- What the program `verdict` prints for a log.
abbrev pub verdict_print : List ℕ → List ℕ
verdict_print bytes = from_bytes verdict_line bytes
