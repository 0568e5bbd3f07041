use Rattle.judge.specs.Frame.{KeepsLittle}
use Rattle.judge.proofs.rows.right_length.Code.{function}

keeps_little : KeepsLittle function
keeps_little = record { small = tt; inside = tt }
