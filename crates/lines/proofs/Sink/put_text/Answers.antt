use mathlib.Core.Path.{refl}
use mathlib.Core.List.{List}
use Prim.Native.Nat.{ℕ}
use Rattle.lines.proofs.Adds.{next_adds}
use Rattle.lines.proofs.Sink.put_text.Goals as goal

pub loop-b-preserved : goal.loop-b-preserved
loop-b-preserved c = next_adds (λ (t : List ℕ). t) _ _ c.loop-b-test.true refl c.loop-b.invariant c.put.ensures
