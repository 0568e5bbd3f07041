use native.Mathlib.Omega.{arith}
use mathlib.Core.Path.{◌≡◌, sym, ap, ◌∙◌}
use Prim.Native.Nat.{ℕ}
use lib.ListN.{length}
use Rattle.history.specs.History.{history_of}
use Rattle.history.specs.Sweep.{missing as first_without}
use Rattle.judging.specs.Rowwise.{Sweep, fresh_sweep, sweep_to}
use Rattle.judging.proofs.Steps.{sweep_one}
use Rattle.judging.proofs.Linked.{missing_is}
use Rattle.judge.proofs.Sweeping.{missing_step}
use Rattle.judge.proofs.sweep.first_missing.Goals as goal
use Rattle.judge.specs.Frame.{KeepsLittle}
use Rattle.judge.proofs.sweep.first_missing.Code.{function}

keeps_little : KeepsLittle function
keeps_little = record { small = tt; inside = tt }

pub loop-k-init : goal.loop-k-init
unfolding fresh_sweep
loop-k-init c = (c.requires, c.new-sweep.ensures.swept _ c.requires, sym (ap (λ (s : Sweep). s.missing) (sweep_one _)))

pub loop-k-preserved : goal.loop-k-preserved
loop-k-preserved c =
    let l = c.loop-k in
    let w = l.invariant.0 in
    let S = l.invariant.1 in
    let f = c.pass-found in (
      w,
      f.ensures.next w (omega arith) S,
      missing_step _ w l.k _ S (omega arith) f.result (f.ensures.found w (omega arith) S) l.invariant.2 c.missing_after-missing.ensures,
    )

pub returns-then-missing-rows : goal.returns-then-missing-rows
returns-then-missing-rows c =
    let l = c.loop-k in
    let r = c.args.rows.now in
    let e : l.k ≡ length r = omega arith in
    (l.invariant.2 ∙ ap (λ (k : ℕ). (sweep_to r k).missing) e ∙ missing_is r l.invariant.0, c.if-missing-rows.true)

pub returns-else-missing-rows : goal.returns-else-missing-rows
returns-else-missing-rows c =
    let l = c.loop-k in
    let r = c.args.rows.now in
    let e : l.k ≡ length r = omega arith in
    let m : l.missing ≡ first_without (history_of r) = l.invariant.2 ∙ ap (λ (k : ℕ). (sweep_to r k).missing) e ∙ missing_is r l.invariant.0 in
    omega arith
