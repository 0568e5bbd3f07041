-- Question 10: "Rows well formed". The test; what it asks for is in Form.
use Rattle.std.specs.Prelude.{ℕ, suc, zero, Bool, true, false, ◌&&◌, List, eqb, leb, ltb, length, get_or}
use Rattle.words.specs.Choice.{pick}
use Rattle.words.specs.Row.{zero_bits}
use Rattle.history.specs.Rows.{kind_bits, processor_of, value_of, lowest, highest, begins, processor_at, begins_at}

-- p is one of the readers 1..n
abbrev pub is_reader : ℕ → ℕ → Bool
is_reader p n = leb 1 p && leb p n

-- "row 0 as above with n 1 to 16"
unfoldable pub head_ok : ℕ → Bool
head_ok w = eqb (kind_bits w) 5 && (eqb (zero_bits w) 0 && is_reader (processor_of w) 16)

-- "later rows kinds 1 to 4, zero bits and the readings of kinds 2 and 3 zero, processor 0 for kinds 1 and 2, 1..n for 3 and 4":
-- of a row of kind k, processor p, zero bits z and value v. Kind 6 stands where 4 may; "Lowest above highest is malformed".
unfoldable pub fields : ℕ → ℕ → ℕ → ℕ → ℕ → Bool
fields k p z v n =
    eqb z 0
    && pick (eqb k 1) (eqb p 0)
    (pick (eqb k 2) (eqb v 0 && eqb p 0)
    (pick (eqb k 3) (eqb v 0 && is_reader p n)
    (pick (eqb k 4) (is_reader p n)
    (pick (eqb k 6) (is_reader p n && leb (lowest v) (highest v)) false))))

abbrev pub fields_ok : ℕ → ℕ → Bool
fields_ok w n = fields (kind_bits w) (processor_of w) (zero_bits w) (value_of w) n

-- the begin row of processor i's open operation before row k, or 0
unfoldable pub open_at : List ℕ → ℕ → ℕ → ℕ
open_at log i zero = 0
open_at log i (suc zero) = 0
open_at log i (suc (suc k)) =
    pick (eqb (processor_at log (suc k)) i) (pick (begins_at log (suc k)) (suc k) 0) (open_at log i (suc k))

-- "begins and ends alternating per processor, a begin first": a begin follows where none is open, an end where one is;
-- b is the begin row of the open one, or 0
unfoldable pub alternates : ℕ → ℕ → Bool
alternates w b = pick (begins w) (eqb b 0) (ltb 0 b)

unfoldable pub row_ok : List ℕ → ℕ → Bool
row_ok log k = fields_ok (get_or log k 0) (processor_at log 0) && alternates (get_or log k 0) (open_at log (processor_at log k) k)

-- f holds of the numbers from 1 on that are below n
unfoldable pub all : (ℕ → Bool) → ℕ → Bool
all f zero = true
all f (suc zero) = true
all f (suc (suc k)) = all f (suc k) && f (suc k)

unfoldable pub well_formed : List ℕ → Bool
well_formed log = ltb 0 (length log) && (head_ok (get_or log 0 0) && all (row_ok log) (length log))
