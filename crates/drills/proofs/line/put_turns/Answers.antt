use Prim.Native.Nat.{◌+◌, ◌-◌}
use native.Mathlib.Omega.{arith}
use mathlib.Core.Path.{◌≡◌, sym, ◌∙◌}
use Rattle.drills.proofs.Turns.{turns_next, turns_end}
use Rattle.drills.proofs.line.put_turns.Goals as goal

pub loop-i-preserved : goal.loop-i-preserved
loop-i-preserved c =
    let left = c.args.turns - c.loop-i.i in
    let e : c.args.turns + 1 - c.loop-i.i ≡ left + 1 = omega arith in
    let f : c.args.turns - (c.loop-i.i + 1) ≡ left - 1 = omega arith in
    rw (e, f) (sym (turns_next _ left _ (omega arith)) ∙ c.loop-i.invariant)

pub returns : goal.returns
returns c = sym (turns_end _ (c.args.turns - c.loop-i.i) _ (omega arith)) ∙ c.loop-i.invariant
