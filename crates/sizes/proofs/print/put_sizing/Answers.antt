use mathlib.Core.Path.{sym, ◌∙◌}
use Rattle.sizes.proofs.Texts.{both_lines, one_answer}
use Rattle.sizes.proofs.print.put_sizing.Goals as goal

pub returns-then-is_ok : goal.returns-then-is_ok
returns-then-is_ok c =
    both_lines _ _ _ _ c.size_of-tickets.ensures.answer _ (sym c.is_ok.ensures.value ∙ c.if-is_ok.true) c.size_of.ensures.answer c.put_answer.ensures c.put_answer-then-is_ok.ensures

pub returns-else-is_ok : goal.returns-else-is_ok
returns-else-is_ok c =
    one_answer _ _ _ _ c.size_of-tickets.ensures.answer (sym c.is_ok.ensures.value ∙ c.if-is_ok.false) c.put_answer.ensures
