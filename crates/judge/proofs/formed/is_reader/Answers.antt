use Rattle.judge.specs.Frame.{KeepsLittle}
use Rattle.judge.proofs.formed.is_reader.Code.{function}

keeps_little : KeepsLittle function
keeps_little = record { small = tt; inside = tt }
