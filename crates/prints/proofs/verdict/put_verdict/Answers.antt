use Rattle.prints.proofs.Verdicts.{places, fits, put_line_lem}
use Rattle.prints.proofs.verdict.put_verdict.Goals as goal

pub put_said-requires : goal.put_said-requires
put_said-requires c = let j = c.judge-verdict in fits c.args.rows.now places j.new.order j.result j.ensures.meaning

pub returns : goal.returns
returns c = let j = c.judge-verdict in put_line_lem c.args.rows.now j.new.order j.result j.ensures c.put_said.ensures
