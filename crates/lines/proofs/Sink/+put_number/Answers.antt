use Rattle.lines.proofs.LineLaws.{number_small, number_large}
use Rattle.lines.proofs.Sink.+put_number.Goals as goal
use Rattle.lines.proofs.Sink.+put_number.Goals.{then-n-ge10, else-n-ge10}

pub returns : goal.returns
returns t c =
    elim c.if-n-ge10.branch [
      | then-n-ge10 w ↦ number_large _ w.if-n-ge10.true w.put_number.ensures (rw w.self-is at c.put.ensures)
      | else-n-ge10 w ↦ number_small _ w.if-n-ge10.false (rw w.self-is at c.put.ensures)
    ]
