use Rattle.prints.proofs.Runs.{bad_behind_lem, none_behind}
use Rattle.prints.proofs.bench.bad_number.Goals as goal

pub returns-then-end-bytes : goal.returns-then-end-bytes
returns-then-end-bytes c = bad_behind_lem _ _ _ c.if-end-bytes.true

pub returns-else-end-bytes : goal.returns-else-end-bytes
returns-else-end-bytes c = none_behind _ _ _ c.if-end-bytes.false
