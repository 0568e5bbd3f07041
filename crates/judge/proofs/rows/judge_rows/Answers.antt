use mathlib.Core.Path.{ap}
use Rattle.judging.specs.Answer.{answer_word}
use Rattle.judging.proofs.Said.{unlisted_number}
use Rattle.judge.proofs.rows.judge_rows.Goals as goal

pub returns-clause-word : goal.returns-clause-word
returns-clause-word c =
    let j = c.judge-verdict in
    rw (c.number_of.ensures, unlisted_number j.result, c.value_of.ensures) (ap answer_word j.ensures.answer)
