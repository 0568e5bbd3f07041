use Rattle.std.proofs.Common.{◌≡◌, drop}
use Rattle.fields.specs.Fields.{each_number}
use Rattle.fields.proofs.each_number.Given as goal

abbrev pub invariant-loop-x : goal.invariant-loop-x
invariant-loop-x l = each_number (drop l.x-index l.numbers) ≡ each_number l.numbers
