use Rattle.script.proofs.ScriptLaws.{Left}
use Rattle.script.proofs.read_calls.Given as goal

abbrev pub invariant-loop-k : goal.invariant-loop-k
invariant-loop-k l = Left l.bytes l.from l.initial.words l.words l.k l.at
