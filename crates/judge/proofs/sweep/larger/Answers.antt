use Rattle.judge.specs.Frame.{KeepsLittle}
use Rattle.judge.proofs.sweep.larger.Code.{function}

keeps_little : KeepsLittle function
keeps_little = record { small = tt; inside = tt }
