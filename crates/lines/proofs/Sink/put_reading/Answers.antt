use Rattle.std.proofs.Common.{arith}
use Rattle.std.proofs.lemmas.Grind.{common_steps}
use Rattle.lines.specs.Lines.{reading_text}
use Rattle.lines.proofs.Adds.{no_text}
use Rattle.lines.proofs.Sink.put_reading.Goals as goal

pub returns-then-matches : goal.returns-then-matches
unfolding reading_text
returns-then-matches c = grind (arith, common_steps)

pub returns-else-matches : goal.returns-else-matches
unfolding reading_text
returns-else-matches c = grind (arith, common_steps, no_text)
