-- Both functions by one induction, on the turns left.
use Prim.Native.Nat.{◌+◌}
use Rattle.turns.proofs.+after_reader_after_writer.Given as goal

abbrev pub decreases-after_reader : goal.decreases-after_reader
decreases-after_reader l = l.a + l.b

abbrev pub decreases-after_writer : goal.decreases-after_writer
decreases-after_writer l = l.a + l.b
