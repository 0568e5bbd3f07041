use Rattle.prints.proofs.Runs.{ending_log, ending_bad}
use Rattle.prints.proofs.bench.put_ending.Goals as goal

pub returns-then-bad-eq0 : goal.returns-then-bad-eq0
returns-then-bad-eq0 c = ending_log _ _ _ _ c.if-bad-eq0.true c.put_log.ensures

pub returns-else-bad-eq0 : goal.returns-else-bad-eq0
returns-else-bad-eq0 c = ending_bad _ _ _ _ c.if-bad-eq0.false c.put_bad.ensures
