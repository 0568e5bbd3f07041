-- What is claimed of a sub-step of an open operation.
use Rattle.std.specs.Prelude.{ℕ, ◌+◌, ◌≤◌, ◌<◌, ◌≡◌, Bool, true, false, Ok}
use Rattle.common.specs.Answers.{Answer}
use Rattle.common.specs.declared.Done.TheVariants.{Moved}

-- A sub-step of an operation with m words moved before it: the answer is its number, and the operation, which is then open or not, ends
-- with it exactly if that is the number e.
pub record Moves (answer : Answer) (still : Bool) (m e : ℕ) : Type 0 where
  pub number_is : answer ≡ Ok (Moved (m + 1))
  pub not_past : m + 1 ≤ e
  pub goes_on : m + 1 < e → still ≡ true
  pub ends : m + 1 ≡ e → still ≡ false
