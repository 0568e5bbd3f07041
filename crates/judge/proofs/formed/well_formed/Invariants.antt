use Rattle.judging.proofs.Checks.{Checked}
use Rattle.judge.proofs.formed.well_formed.Given as goal

abbrev pub invariant-loop-k : goal.invariant-loop-k
invariant-loop-k l = Checked l.rows l.n l.k l.begins
