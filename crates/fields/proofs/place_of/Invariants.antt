use Rattle.std.proofs.Common.{◌≡◌}
use Rattle.fields.specs.Fields.{place_of}
use Rattle.fields.proofs.place_of.Given as goal

abbrev pub invariant-loop-i : goal.invariant-loop-i
invariant-loop-i l = place_of l.x l.bytes l.i ≡ place_of l.x l.bytes l.from
