use Rattle.lags.proofs.Filling.{Fills}
use Rattle.judge.specs.Swept.{Swept}
use Rattle.sheets.proofs.fill.lines.Given as goal

abbrev pub invariant-loop-k : goal.invariant-loop-k
invariant-loop-k l = Swept l.rows l.k l.sweep × Fills l.rows l.k l.ranks l.lines l.top_rank l.begun
