-- One sub-step of one processor, of a register with the rules R, whatever is handed over: the rules' sub-step of an open operation in
-- range, over a table that serves n readers; where there is none, no word is moved and nothing changes.
use Rattle.std.specs.Prelude.{ℕ, Bool, ◌&&◌, List, leb, length}
use Rattle.words.specs.Choice.{pick}
use Rattle.common.specs.declared.Writer.{Writer}
use Rattle.common.specs.declared.Reader.{Reader}
use Rattle.common.specs.Rules.{WriteStep, ReadStep, Rules}

-- "n 1 to 16; this table n²+n cells or more", or n² of the counted register
abbrev pub serves : Rules → ℕ → ℕ → Bool
serves R n cells = leb 1 n && (leb n 16 && leb (R.cells n) cells)

-- the writer has an open write, and passes what question 4 asks of it
abbrev pub writes : Rules → ℕ → Writer → Bool
writes R n w = R.writer_ok n w && w.active

-- the same of reader p and its read
abbrev pub reads : Rules → ℕ → ℕ → Reader → Bool
reads R n p r = (leb 1 p && leb p n) && (R.reader_ok n r && r.active)

unfoldable pub write_step_of : Rules → ℕ → Writer → List ℕ → WriteStep
write_step_of R n w t = pick (serves R n (length t) && writes R n w) (R.write_step n w t) (record { writer = w; table = t })

unfoldable pub read_step_of : Rules → ℕ → ℕ → Reader → List ℕ → ReadStep
read_step_of R n p r t = pick (serves R n (length t) && reads R n p r) (R.read_step n p r t) (record { reader = r; table = t })
