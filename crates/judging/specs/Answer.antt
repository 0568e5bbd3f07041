-- The judge's answer: questions 9 to 12 in their order.
use Rattle.std.specs.Prelude.{ℕ, ◌+◌, ◌*◌, ◌%◌, ◌^◌, Bool, ◌&&◌, List, [], ◌∷◌, ◌++◌, Result, Ok, Err, eqb, leb, ltb, length, get_or, drop}
use Rattle.words.specs.Choice.{pick}
use Rattle.words.specs.Bits.{low}
use Rattle.logbytes.specs.Bytes.{rows_of}
use Rattle.history.specs.Rows.{begins}
use Rattle.history.specs.WellFormed.{well_formed}
use Rattle.history.specs.History.{history_of}
use Rattle.history.specs.Sweep.{missing}
use Rattle.history.specs.Listing.{listing}
use Rattle.judging.specs.Fold.{up_to}
use Rattle.judging.specs.declared.Fault.{Fault}
use Rattle.judging.specs.declared.Fault.TheVariants.{WrongLength, Malformed, NoRoom, NoOrder}

-- document 01's number of an answer, 0 for an order, and the values that come with it
pub record Answer : Type 0 where
  pub number : ℕ
  pub values : List ℕ

abbrev pub refused : ℕ → Answer
refused k = record { number = k; values = [] }

-- refused with the begin row r
abbrev pub no_order : ℕ → Answer
no_order r = record { number = 12; values = r ∷ [] }

-- an order of n operations
abbrev pub accepted : ℕ → Answer
accepted n = record { number = 0; values = n ∷ [] }

-- the answer that a fault stands for
abbrev pub refusal : Fault → Answer
refusal WrongLength = refused 9
refusal Malformed = refused 10
refusal NoRoom = refused 11
refusal (NoOrder r) = no_order r

-- the answer that a verdict stands for: an order of so many operations, or a fault
abbrev pub answer : Result ℕ Fault → Answer
answer (Ok n) = accepted n
answer (Err f) = refusal f

-- the answer where no operation is listed
abbrev pub unlisted : {A : Type 0} → Result A Fault → Answer
unlisted (Ok _) = accepted 0
unlisted (Err f) = refusal f

-- an answer as a word, for a host in C: the number above, the value below, of which the lower half fits; 0 where there is none
abbrev pub answer_word : Answer → ℕ
answer_word a = a.number * 2 ^ 32 + low 32 (get_or a.values 0 0)

-- "1 to 4,096 rows"
abbrev pub right_length : ℕ → Bool
right_length n = leb 1 n && leb n 4096

-- n, and one more if w is a begin row
unfoldable pub count_after : ℕ → ℕ → ℕ
count_after w n = pick (begins w) (n + 1) n

-- the number of begin rows before row k
unfoldable pub begins_to : List ℕ → ℕ → ℕ
begins_to log k = up_to (λ n j. count_after (get_or log j 0) n) 0 k

-- By cases: a no to question 9, 10 or 11 with its number, a no to 12 with a row, or the order. That `missing` and `listing` are
-- what document 01 asks for is said in Meaning.
unfoldable pub cases : {A : Type 0} → List ℕ → ℕ → (ℕ → A) → (ℕ → A) → (List ℕ → A) → A
cases log places refuse none order =
    pick (right_length (length log))
    (pick (well_formed log)
    (pick (leb (begins_to log (length log)) places)
    (pick (ltb (missing (history_of log)) (length log)) (none (missing (history_of log))) (order (listing log)))
    (refuse 11))
    (refuse 10))
    (refuse 9)

-- what is settled before a place is written: the answer, of no operations yet
unfoldable pub settled_of : List ℕ → ℕ → Answer
settled_of log places = cases log places refused no_order (λ _. accepted 0)

unfoldable pub answer_of : List ℕ → ℕ → Answer
answer_of log places = cases log places refused no_order (λ l. accepted (length l))

-- the places o with l at their front: "places beyond are untouched"
unfoldable pub laid : List ℕ → List ℕ → List ℕ
laid l o = l ++ drop (length l) o

-- the places after the call: "A no gives its number and alters nothing."
unfoldable pub order_of : List ℕ → List ℕ → List ℕ
order_of log o = cases log (length o) (λ _. o) (λ _. o) (λ l. laid l o)

-- "no order buffer, and gives 0 or the number": the number where there are places enough
unfoldable pub number_of : List ℕ → ℕ
number_of log = (answer_of log (begins_to log (length log))).number

-- "the log as bytes"; "a length not a multiple of 8 is 9"
unfoldable pub bytes_number : List ℕ → ℕ
bytes_number b = pick (eqb (length b % 8) 0) (number_of (rows_of b)) 9
