use mathlib.Core.Path.{◌≡◌}
use lib.Dec.{T}
use Rattle.history.specs.WellFormed.{well_formed}
use Rattle.judging.specs.Rowwise.{sweep_to}
use Rattle.judge.specs.Swept.{Swept}
use Rattle.judge.proofs.sweep.first_missing.Given as goal

abbrev pub invariant-loop-k : goal.invariant-loop-k
invariant-loop-k l = T (well_formed l.rows) × Swept l.rows l.k l.sweep × (l.missing ≡ (sweep_to l.rows l.k).missing)
