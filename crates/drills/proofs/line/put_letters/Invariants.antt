use Rattle.std.proofs.Common.{length, take}
use Rattle.lines.specs.Adds.{Adds}
use Rattle.drills.specs.Words.{word_letters}
use Rattle.drills.proofs.line.put_letters.Given as goal

abbrev pub invariant-loop-call : goal.invariant-loop-call
invariant-loop-call l = Adds (word_letters (take (length l.yielded) l.calls) (take (length l.yielded) l.answers)) l.initial.out l.out
