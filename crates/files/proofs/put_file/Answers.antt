use Rattle.storing.specs.File.{file_of}
use Rattle.logbytes.specs.Bytes.{bytes_of}
use Rattle.lines.proofs.Adds.{then_adds}
use Rattle.files.proofs.put_file.Goals as goal

pub returns : goal.returns
unfolding file_of bytes_of
returns c = then_adds (rw c.to_be_bytes.ensures at c.put_text.ensures) (then_adds c.put_text-2.ensures c.put_rows.ensures)
