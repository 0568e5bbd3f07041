use Rattle.std.proofs.lemmas.Grind.{common_steps}
use Rattle.common.specs.Rules.{state_ok}
use Rattle.questions.proofs.Laws.{many_readers}
use native.Mathlib.Omega.{arith}
use Rattle.questions.proofs.range.state_ok.Goals as goal
use Rattle.questions.proofs.range.state_ok.Goals.{then-head_ok, else-head_ok}

pub returns-then-h-gt16 : goal.returns-then-h-gt16
returns-then-h-gt16 g c = many_readers _ c.args.s _ _ (omega arith)

pub returns-then-writer_ok : goal.returns-then-writer_ok
unfolding state_ok
returns-then-writer_ok g c =
    elim c.if-head_ok.branch [
      | then-head_ok w ↦ grind (arith, common_steps)
      | else-head_ok w ↦ grind (arith, common_steps)
    ]

pub returns-else-writer_ok : goal.returns-else-writer_ok
unfolding state_ok
returns-else-writer_ok g c =
    elim c.if-head_ok.branch [
      | then-head_ok w ↦ grind (arith, common_steps)
      | else-head_ok w ↦ grind (arith, common_steps)
    ]
