-- The answers' numbers.
use Rattle.std.specs.Prelude.{ℕ, Bool, true, not, ◌&&◌, List, [], ◌∷◌, eqb, get_or, Result, Ok, Err}
use Rattle.common.specs.declared.Refusal.{Refusal}
use Rattle.common.specs.declared.Refusal.TheVariants.{Readers, Cells, Rows, Range, Processor, Busy, Full, Idle, Retired, Spent}
use Rattle.common.specs.declared.Done.{Done}
use Rattle.common.specs.declared.Done.TheVariants.{Accepted, Moved}

-- "are there 1 to 16 readers (1)? At least n²+n cells (2)? Is the log 3 to 4,096 rows (3)?", "is the state in range (4 if not)",
-- "Is the processor 0..n, for a read 1..n (5)? Begin: is it idle (6)? Are free rows at least open operations plus 2 (7)?
-- Step: has it an open operation (8)?"; of the counted register "questions 2 and 4 take n² cells", "14, stamp 4,294,967,295 has been
-- used"; of both "13, the reader is retired"
abbrev pub refusal_number : Refusal → ℕ
refusal_number Readers = 1
refusal_number Cells = 2
refusal_number Rows = 3
refusal_number Range = 4
refusal_number Processor = 5
refusal_number Busy = 6
refusal_number Full = 7
refusal_number Idle = 8
refusal_number Retired = 13
refusal_number Spent = 14

-- A call's answer: what was done, or why it was refused.
abbrev pub Answer : Type 0
Answer = Result Done Refusal

-- Document 01's number of an answer, 0 where it is no refusal, and the values that come with it.
pub record Reply : Type 0 where
  pub number : ℕ
  pub values : List ℕ

abbrev pub reply : Answer → Reply
reply (Ok Accepted) = record { number = 0; values = [] }
reply (Ok (Moved k)) = record { number = 0; values = k ∷ [] }
reply (Err r) = record { number = refusal_number r; values = [] }

-- "each call's refusal number, or that it has none": 0
abbrev pub number_of : Answer → ℕ
number_of a = (reply a).number

-- "and each sub-step's number"; 0 where there is none
abbrev pub sub_step_of : Answer → ℕ
sub_step_of a = get_or (reply a).values 0 0

-- no answer is refusal 4
abbrev pub never4 : List Answer → Bool
never4 [] = true
never4 (a ∷ rest) = not (eqb (number_of a) 4) && never4 rest
