use mathlib.Core.Path.{sym, ap, ◌∙◌}
use Rattle.common.specs.SetUp.{Outcome}
use Rattle.lists.proofs.Laws.{answer_set_up, word_accepted, word_refused, runs_kind, runs_not}
use Rattle.lists.proofs.run_of.Goals as goal

pub returns-then-is_err : goal.returns-then-is_err
returns-then-is_err g c =
    let a = c.args in
    let o = c.set_up_of-answer in
    (ap (λ (x : Outcome). x.answer) o.ensures, runs_not _ a.n a.value a.fresh a.table.now a.log.now a.words.now a.answers.now o.result _ _ o.ensures (word_refused o.result.answer (sym c.is_err.ensures.value ∙ c.if-is_err.true)))

pub returns : goal.returns
returns g c =
    let a = c.args in
    let o = c.set_up_of-answer in (
      ap (λ (x : Outcome). x.answer) o.ensures,
      c.make_calls-calls.ensures
          ∙ runs_kind _ g.met.P.Protocol.of_kind a.n a.value a.fresh a.table.now a.log.now a.words.now a.answers.now o.result _ _ o.ensures
          (word_accepted o.result.answer (answer_set_up _ a.n a.value a.fresh a.table.now a.log.now o.result _ _ o.ensures) (sym c.is_err.ensures.value ∙ c.if-is_err.false)),
    )
