-- What storing and restoring answer, and what they leave: the questions in their order.
use Rattle.std.specs.Prelude.{ℕ, ◌+◌, ◌≡◌, ◌&&◌, List, Result, Ok, Err, leb, length}
use Rattle.words.specs.Choice.{pick}
use Rattle.history.specs.WellFormed.{well_formed}
use Rattle.judging.specs.Answer.{right_length, laid}
use Rattle.storing.specs.Strips.{strip_bytes, strip_rows, log_of, matched}
use Rattle.storing.specs.declared.Fault.{Fault}
use Rattle.storing.specs.declared.Fault.TheVariants.{WrongLength, Malformed, NoRoom, Unmatched}

-- the papers' number of a fault
abbrev pub fault_number : Fault → ℕ
fault_number WrongLength = 9
fault_number Malformed = 10
fault_number NoRoom = 11
fault_number Unmatched = 16

-- and of an answer, 0 for done
abbrev pub number_of : {A : Type 0} → Result A Fault → ℕ
number_of (Ok _) = 0
number_of (Err f) = fault_number f

-- "Storing passes questions 9 and 10"; "too few places lent, bytes or rows, is 11, last". By cases: a no with its number, or done.
unfoldable pub storing : {A : Type 0} → List ℕ → ℕ → ℕ → (ℕ → A) → A → A
storing log bytes rows refuse done =
    pick (right_length (length log))
    (pick (well_formed log)
    (pick (leb (length log) (bytes + 1) && leb (length log) rows) done (refuse 11))
    (refuse 10))
    (refuse 9)

-- "restoring passes 16, then 9 and 10 for the log it would give", and 11 last
unfoldable pub restoring : {A : Type 0} → List ℕ → List ℕ → ℕ → (ℕ → A) → A → A
restoring bytes rows places refuse done =
    pick (matched bytes rows)
    (pick (right_length (length (log_of bytes rows)))
    (pick (well_formed (log_of bytes rows))
    (pick (leb (length (log_of bytes rows)) places) done (refuse 11))
    (refuse 10))
    (refuse 9))
    (refuse 16)

-- The number k, and the two buffers, b and r before and b' and r' after. "A no gives its number and alters nothing."
pub record Stored (log b r b' r' : List ℕ) (k : ℕ) : Type 0 where
  pub number : k ≡ storing log (length b) (length r) (λ j. j) 0
  pub bytes_are : b' ≡ storing log (length b) (length r) (λ _. b) (laid (strip_bytes log) b)
  pub rows_are : r' ≡ storing log (length b) (length r) (λ _. r) (laid (strip_rows log) r)

-- The number k, and the places for the log, o before and o' after.
pub record Restored (bytes rows o o' : List ℕ) (k : ℕ) : Type 0 where
  pub number : k ≡ restoring bytes rows (length o) (λ j. j) 0
  pub log_is : o' ≡ restoring bytes rows (length o) (λ _. o) (laid (log_of bytes rows) o)
