use Prim.Native.Nat.{◌-◌}
use mathlib.Core.Path.{◌≡◌}
use lib.Seq.{sets}
use Rattle.drills.specs.Words.{turn_words}
use Rattle.drills.proofs.line.put_turns.Given as goal

-- what is left to be put gives the whole
abbrev pub invariant-loop-i : goal.invariant-loop-i
invariant-loop-i l = sets l.words 2 (turn_words (l.turns - l.i) l.rest) ≡ sets l.initial.words 2 (turn_words l.turns l.schedule)
