-- What the functions of the register give, as the definitions have it.
use Rattle.std.specs.Prelude.{ℕ, List}
use Rattle.common.specs.Answers.{Answer}
use Rattle.common.specs.declared.State.{State}
use Rattle.common.specs.SetUp.{Outcome}
use Rattle.register.specs.declared.calls.Called.{Called}

-- what a call on a lent state gives and leaves
abbrev pub left : Answer → State → List ℕ → List ℕ → Outcome
left a s t l = record { answer = a; state = s; table = t; log = l }

abbrev pub outcome : Called → List ℕ → List ℕ → Outcome
outcome c t l = left c.answer c.state t l
