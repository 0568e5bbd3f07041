use native.Mathlib.Omega.{arith}
use mathlib.Core.Path.{refl, sym, ap}
use Rattle.judging.specs.Rowwise.{Sweep, fresh_sweep}
use Rattle.judging.proofs.Steps.{some, sweep_one}
use Rattle.judge.specs.Swept
use Rattle.judge.proofs.sweep.Sweep.new.Goals as goal
use Rattle.judge.specs.Frame.{KeepsLittle}
use Rattle.judge.proofs.sweep.Sweep.new.Code.{function}

keeps_little : KeepsLittle function
keeps_little = record { small = tt; inside = tt }

pub returns-clause-fresh : goal.returns-clause-fresh
unfolding Swept.fresh_sweep
returns-clause-fresh c = refl

pub returns-clause-swept : goal.returns-clause-swept
unfolding fresh_sweep
returns-clause-swept c = λ log w. record {
  from = omega arith;
  upto = some log w;
  begins = sym (ap (λ (s : Sweep). s.begins) (sweep_one log));
  floors = sym (ap (λ (s : Sweep). s.floors) (sweep_one log));
  top = sym (ap (λ (s : Sweep). s.top) (sweep_one log));
}
