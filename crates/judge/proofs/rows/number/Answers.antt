use mathlib.Core.Path.{ap, ◌∙◌}
use Rattle.judging.specs.Answer.{Answer}
use Rattle.judging.proofs.Said.{number_settled}
use Rattle.judge.proofs.rows.number.Goals as goal

pub returns : goal.returns
returns c =
    let r = c.args.rows.now in
    c.number_of.ensures ∙ ap (λ (x : Answer). x.number) c.settle.ensures ∙ number_settled r
