-- What the judge and both reports say of a register's log.
use Rattle.std.specs.Prelude.{ℕ, ◌≡◌, List, take}
use Rattle.history.specs.Regular.{IsAtomic}
use Rattle.history.specs.Shrinking.{IsAtomicRun}
use Rattle.judging.specs.Answer.{number_of}
use Rattle.common.specs.declared.calls.Call.{Call}
use Rattle.common.specs.Rules.{Rules}
use Rattle.common.specs.Register.{ran_from}

-- the used rows, as a list of calls leaves them
abbrev pub used : Rules → ℕ → ℕ → ℕ → List ℕ → List ℕ → List Call → List ℕ
used R n v fresh t l cs = take (ran_from R n v fresh t l cs).state.head.used (ran_from R n v fresh t l cs).log

-- "A register is atomic if each of its runs is atomic." (report CS-R8628): the judge's number is 0, and the log is atomic by both reports
pub record Accepted (rows : List ℕ) : Type 0 where
  pub judged_0 : number_of rows ≡ 0
  pub atomic : IsAtomic rows × IsAtomicRun rows
