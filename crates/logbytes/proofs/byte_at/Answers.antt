use native.Mathlib.Omega.{arith}
use Rattle.logbytes.proofs.Laws.{byte_is, byte_beyond}
use Rattle.logbytes.proofs.byte_at.Goals as goal

pub returns-then-k-rows : goal.returns-then-k-rows
returns-then-k-rows c = byte_is c.args.rows.now c.args.k (omega arith)

pub returns : goal.returns
returns c = byte_beyond c.args.rows.now c.args.k (omega arith)
