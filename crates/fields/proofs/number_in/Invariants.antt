use Rattle.std.proofs.Common.{◌≡◌, ◌<◌, drop}
use Rattle.fields.specs.Fields.{none}
use Rattle.fields.specs.Digits.{digits_after}
use Rattle.fields.proofs.number_in.Given as goal

abbrev pub invariant-loop-b : goal.invariant-loop-b
invariant-loop-b l = record { rest : digits_after l.v (drop l.b-index l.text) ≡ digits_after 0 l.text; low : l.v < none }
