use Rattle.lines.proofs.LineLaws.{row_is}
use Rattle.lines.proofs.Sink.put_row.Goals as goal

pub returns : goal.returns
returns c =
    row_is _ _ _ _ c.from-w.ensures c.letter_of.ensures c.put_number.ensures c.put_letter.ensures
    c.put_reader.ensures c.put_reading.ensures c.put.ensures
