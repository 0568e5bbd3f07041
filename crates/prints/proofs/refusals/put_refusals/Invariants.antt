use Rattle.std.proofs.Common.{take}
use mathlib.Core.List.{flat_map}
use Rattle.lines.specs.Adds.{Adds}
use Rattle.prints.specs.Words.{refusal_text}
use Rattle.prints.proofs.refusals.put_refusals.Given as goal

abbrev pub invariant-loop-answer : goal.invariant-loop-answer
invariant-loop-answer l = Adds (flat_map refusal_text (take l.answer-index l.answers)) l.initial.out l.out
