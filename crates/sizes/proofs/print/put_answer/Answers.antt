use Rattle.std.proofs.Common.{Ok}
use Rattle.figures.specs.declared.NoFigures.TheVariants.{Refused, Larger, TooLong}
use Rattle.printing.specs.Sizing.{answer_line}
use Rattle.sizes.proofs.Texts.{as_answer, as_refusal}
use Rattle.sizes.proofs.print.put_answer.Goals as goal

pub returns-in-Refused : goal.returns-in-Refused
unfolding answer_line
returns-in-Refused c = as_refusal _ _ _ Refused c.in-Err.is c.in-Refused.is c.put_refused.ensures

pub returns-in-Larger : goal.returns-in-Larger
unfolding answer_line
returns-in-Larger c = as_refusal _ _ _ Larger c.in-Err.is c.in-Larger.is c.put_line.ensures

pub returns-in-TooLong : goal.returns-in-TooLong
returns-in-TooLong c = as_refusal _ _ _ TooLong c.in-Err.is c.in-TooLong.is c.put_too_long.ensures

pub returns-in-Ok : goal.returns-in-Ok
unfolding answer_line
returns-in-Ok c = as_answer _ _ (Ok _) c.in-Ok.is c.put_figures.ensures
