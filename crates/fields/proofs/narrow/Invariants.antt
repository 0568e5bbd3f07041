use Rattle.std.proofs.Common.{◌≡◌, length, take}
use Rattle.fields.proofs.narrow.Given as goal

abbrev pub invariant-loop-i : goal.invariant-loop-i
invariant-loop-i g l = record { copied : take l.i l.numbers ≡ take l.i l.places; whole : length l.numbers ≡ length l.places }
