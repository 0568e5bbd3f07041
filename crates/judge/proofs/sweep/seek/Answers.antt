use native.Mathlib.Omega.{arith}
use mathlib.Core.Path.{◌≡◌, sym, ◌∙◌}
use Rattle.history.proofs.Search.{first_hit, first_miss, first_end}
use Rattle.judge.proofs.sweep.seek.Goals as goal
use Rattle.judge.specs.Frame.{KeepsLittle}
use Rattle.judge.proofs.sweep.seek.Code.{function}

keeps_little : KeepsLittle function
keeps_little = record { small = tt; inside = tt }

pub returns-then-is_source : goal.returns-then-is_source
returns-then-is_source c =
    sym (c.loop-q.invariant.1 ∙ first_hit _ _ _ (omega arith) (sym c.is_source.ensures ∙ c.if-is_source.true))

pub loop-q-preserved : goal.loop-q-preserved
loop-q-preserved c =
    (omega arith, c.loop-q.invariant.1 ∙ first_miss _ _ _ (omega arith) (sym c.is_source.ensures ∙ c.if-is_source.false))

pub returns : goal.returns
returns c =
    let q = c.loop-q in
    let e : c.larger.result ≡ q.q = omega arith in
    e ∙ sym (q.invariant.1 ∙ first_end _ _ _ (omega arith))
