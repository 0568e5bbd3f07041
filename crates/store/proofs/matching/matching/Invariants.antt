use Prim.Native.Nat.{◌-◌}
use Rattle.store.proofs.Agreed.{Agreed}
use Rattle.store.proofs.matching.matching.Given as goal

abbrev pub invariant-loop-at : goal.invariant-loop-at
invariant-loop-at l = Agreed l.bytes l.rows l.at l.p

abbrev pub decreases-loop-at : goal.decreases-loop-at
decreases-loop-at l = 256 - l.p
