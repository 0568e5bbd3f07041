use Rattle.store.proofs.Nexts.{Putting}
use Rattle.store.proofs.back.put_log.Given as goal

abbrev pub invariant-loop-k : goal.invariant-loop-k
invariant-loop-k l = Putting l.bytes l.rows l.initial.log l.log l.next l.k
