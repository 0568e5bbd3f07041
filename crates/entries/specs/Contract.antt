-- What the entries answer and leave, by the rules of the register that the state is of.
use Rattle.std.specs.Prelude.{ℕ, List, eqb, Ok, Err}
use Rattle.words.specs.Choice.{pick}
use Rattle.common.specs.Answers.{Answer}
use Rattle.common.specs.declared.State.{State}
use Rattle.common.specs.CallWords.{answer_word}
use Rattle.common.specs.Rules.{Rules}
use Rattle.common.specs.SetUp.{Outcome, set_up_of}
use Rattle.common.specs.Register as Register
use Rattle.kinds.specs.Rules.{rules_of}

-- processor p begins: the writer, 0, a write of v, and a reader a read
abbrev pub begin_of : State → List ℕ → List ℕ → ℕ → ℕ → Outcome
begin_of s t l p v =
    let R = rules_of s.head.counted in
    pick (eqb p 0) (Register.begin_write_of R s t l v) (Register.begin_read_of R s t l p)

-- a sub-step of processor p
abbrev pub step_of : State → List ℕ → List ℕ → ℕ → Outcome
step_of s t l p = Register.step_of (rules_of s.head.counted) s t l p

-- reader p is retired
abbrev pub retire_of : State → List ℕ → List ℕ → ℕ → Outcome
retire_of s t l p = Register.retire_of (rules_of s.head.counted) s t l p

-- set-up over a lent state: "A no gives its number and alters nothing."
abbrev pub unless_refused : Answer → State → State → State
unless_refused (Ok done) s next = next
unless_refused (Err why) s next = s

abbrev pub over : State → Outcome → Outcome
over s o = record { answer = o.answer; state = unless_refused o.answer s o.state; table = o.table; log = o.log }

abbrev pub set_up_over : Rules → State → List ℕ → List ℕ → ℕ → ℕ → ℕ → Outcome
set_up_over R s t l n v fresh = over s (set_up_of R n v fresh t l)

-- what a call gives and leaves, with the answer as a word
pub record WordOutcome : Type 0 where
  pub word : ℕ
  pub state : State
  pub table : List ℕ
  pub log : List ℕ

abbrev pub word_outcome : ℕ → State → List ℕ → List ℕ → WordOutcome
word_outcome w s t l = record { word = w; state = s; table = t; log = l }

abbrev pub in_word : Outcome → WordOutcome
in_word o = word_outcome (answer_word o.answer) o.state o.table o.log
