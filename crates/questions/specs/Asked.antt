-- Questions 4, 5 and 13 of a call by a processor, as the code asks them: what a call goes on to is said in common/specs/Register.
use Rattle.std.specs.Prelude.{ℕ, ◌≤◌, ◌≡◌, false, Result, Ok, Err}
use Rattle.words.specs.Choice.{pick}
use Rattle.common.specs.declared.State.{State}
use Rattle.common.specs.declared.Refusal.{Refusal}
use Rattle.common.specs.declared.Refusal.TheVariants.{Range, Processor, Retired}
use Rattle.common.specs.Head.{is_processor}
use Rattle.common.specs.State.{is_retired}
use Rattle.common.specs.Rules.{Rules, state_ok, InRange}

-- the first that is answered no: in range (4), a processor from the least on (5), not retired (13)
abbrev pub asked_of : Rules → State → ℕ → ℕ → ℕ → ℕ → Result (Unit {0}) Refusal
asked_of R s cells log least p =
    pick (state_ok R s cells log) (pick (is_processor s.head least p) (pick (is_retired s p) (Err Retired) (Ok tt)) (Err Processor)) (Err Range)

-- what a processor from the least on is that has passed them
pub record Passed (R : Rules) (s : State) (cells log least p : ℕ) : Type 0 where
  pub is_in_range : InRange R s cells log
  pub p_low : least ≤ p
  pub p_high : p ≤ s.head.n
  pub free : is_retired s p ≡ false
