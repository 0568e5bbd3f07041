use Rattle.std.proofs.Common.{◌≡◌, ◌+◌}
use Rattle.inputs.proofs.Prints.print_each.Given as goal

-- the inputs below k have been printed
abbrev pub invariant-loop-k : goal.invariant-loop-k
invariant-loop-k g l = l.printed + 1 ≡ l.k
