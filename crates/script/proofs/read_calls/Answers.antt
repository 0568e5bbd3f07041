use native.Mathlib.Omega.{arith}
use mathlib.Core.Path.{sym}
use Rattle.std.proofs.lemmas.List.{set-get_or}
use Rattle.script.proofs.ScriptLaws.{rest_none, left_all, left_full, left_next}
use Rattle.script.proofs.read_calls.Goals as goal

pub loop-k-init : goal.loop-k-init
loop-k-init c = left_all _ _ _

pub returns-in-None : goal.returns-in-None
returns-in-None c = rw set-get_or (rest_none _ _ _ c.loop-k.invariant (sym c.in-None.ensures))

pub loop-k-preserved : goal.loop-k-preserved
loop-k-preserved c = let n = c.in-Some.ensures in left_next _ _ _ c.in-Some.call _ c.loop-k.invariant (omega arith) n.0 (omega (arith, n.1)) n.2

pub returns : goal.returns
returns c = left_full _ _ _ c.loop-k.invariant (omega arith)
