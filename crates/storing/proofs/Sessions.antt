-- Logs stored and put back, as one table that one fact covers. What is to come of each is document 02's, card 12, or an outside model's.
use Prim.Native.Nat.{ℕ, zero, suc, ◌+◌, ◌*◌}
use mathlib.Core.Path.{◌≡◌, refl}
use mathlib.Core.Bool.{Bool, true, false, ◌&&◌}
use mathlib.Core.List.{List, [], ◌∷◌, ◌++◌, map}
use lib.Dec.{leb}
use lib.ListN.{length, replicate}
use Rattle.std.specs.Prelude.{⊤, Result, Ok, Err}
use Rattle.words.specs.Choice.{pick}
use Rattle.words.specs.Row
use Rattle.words.specs.Row.{row_of}
use Rattle.words.specs.Same
use Rattle.logbytes.specs.Bytes
use Rattle.history.specs.Rows
use Rattle.history.specs.WellFormed
use Rattle.history.specs.WellFormed.{well_formed}
use Rattle.judging.specs.Answer.{right_length, laid}
use Rattle.storing.specs.Gather
use Rattle.storing.specs.Strips
use Rattle.storing.specs.Strips.{strip_bytes, strip_rows, log_of, matched}
use Rattle.storing.specs.Answer.{number_of, storing, restoring, Stored, Restored}
use Rattle.storing.specs.File
use Rattle.storing.specs.File.{Written, store_file, restore_file}
use Rattle.storing.specs.declared.Fault.{Fault}
use Rattle.storing.specs.declared.Fault.TheVariants.{WrongLength, Malformed, NoRoom, Unmatched}

-- A number, and the buffers or the bytes that come with it: what came, and what is to come.
pub record Session : Type 0 where
  pub got : List (List ℕ)
  pub wanted : List (List ℕ)

-- storing with the places b and r lent, and restoring with the places o: the number, and what the places become
abbrev after_storing : List ℕ → List ℕ → List ℕ → List (List ℕ)
after_storing log b r =
    storing log (length b) (length r) (λ k. (k ∷ []) ∷ b ∷ r ∷ []) ((0 ∷ []) ∷ laid (strip_bytes log) b ∷ laid (strip_rows log) r ∷ [])

abbrev after_restoring : List ℕ → List ℕ → List ℕ → List (List ℕ)
after_restoring bytes rows o = restoring bytes rows (length o) (λ k. (k ∷ []) ∷ o ∷ []) ((0 ∷ []) ∷ laid (log_of bytes rows) o ∷ [])

-- They are what the answers are defined to be; there each part is picked for itself.
pub stored_is : {log b r b' r' : List ℕ} {k : ℕ} → Stored log b r b' r' k → (k ∷ []) ∷ b' ∷ r' ∷ [] ≡ after_storing log b r
unfolding storing
stored_is {log = log} {b = b} {r = r} S =
    rw (S.number, S.bytes_are, S.rows_are)
    (at_once (laid (strip_bytes log) b) (laid (strip_rows log) r)
    (right_length (length log)) (well_formed log) (leb (length log) (length b + 1) && leb (length log) (length r)))
  where
    at_once : (x y : List ℕ) (t u v : Bool)
        → (pick t (pick u (pick v 0 11) 10) 9 ∷ []) ∷ pick t (pick u (pick v x b) b) b ∷ pick t (pick u (pick v y r) r) r ∷ []
        ≡ pick t (pick u (pick v ((0 ∷ []) ∷ x ∷ y ∷ []) ((11 ∷ []) ∷ b ∷ r ∷ [])) ((10 ∷ []) ∷ b ∷ r ∷ [])) ((9 ∷ []) ∷ b ∷ r ∷ [])
    at_once x y false u v = refl
    at_once x y true false v = refl
    at_once x y true true false = refl
    at_once x y true true true = refl

pub restored_is : {bytes rows o o' : List ℕ} {k : ℕ} → Restored bytes rows o o' k → (k ∷ []) ∷ o' ∷ [] ≡ after_restoring bytes rows o
unfolding restoring
restored_is {bytes = bytes} {rows = rows} {o = o} R =
    let log = log_of bytes rows in
    rw (R.number, R.log_is)
    (at_once (laid log o) (matched bytes rows) (right_length (length log)) (well_formed log) (leb (length log) (length o)))
  where
    at_once : (x : List ℕ) (s t u v : Bool)
        → (pick s (pick t (pick u (pick v 0 11) 10) 9) 16 ∷ []) ∷ pick s (pick t (pick u (pick v x o) o) o) o ∷ []
        ≡ pick s (pick t (pick u (pick v ((0 ∷ []) ∷ x ∷ []) ((11 ∷ []) ∷ o ∷ [])) ((10 ∷ []) ∷ o ∷ [])) ((9 ∷ []) ∷ o ∷ [])) ((16 ∷ []) ∷ o ∷ [])
    at_once x false t u v = refl
    at_once x true false u v = refl
    at_once x true true false v = refl
    at_once x true true true false = refl
    at_once x true true true true = refl

-- stored, or refused: "A no gives its number and alters nothing."
abbrev stored : List ℕ → List ℕ → List ℕ → List ℕ → List ℕ → Session
stored log b r b' r' = record { got = after_storing log b r; wanted = (0 ∷ []) ∷ b' ∷ r' ∷ [] }

abbrev not_stored : List ℕ → List ℕ → List ℕ → ℕ → Session
not_stored log b r k = record { got = after_storing log b r; wanted = (k ∷ []) ∷ b ∷ r ∷ [] }

abbrev restored : List ℕ → List ℕ → List ℕ → List ℕ → Session
restored bytes rows o o' = record { got = after_restoring bytes rows o; wanted = (0 ∷ []) ∷ o' ∷ [] }

abbrev not_restored : List ℕ → List ℕ → List ℕ → ℕ → Session
not_restored bytes rows o k = record { got = after_restoring bytes rows o; wanted = (k ∷ []) ∷ o ∷ [] }

-- the program's number and bytes
abbrev program : Written → ℕ → List ℕ → Session
program x k l = record { got = (x.number ∷ []) ∷ x.bytes ∷ []; wanted = (k ∷ []) ∷ l ∷ [] }

-- k places with different marks. Behind n of them stand those of marks (k - n).
abbrev marks : ℕ → List ℕ
marks zero = []
marks (suc k) = (100 + k) ∷ marks k

-- row 0 of two readers with start reading 7, and rows in the letters of the listing
abbrev two : List ℕ → List ℕ
two rows = row_of 5 2 7 ∷ rows

abbrev W : ℕ → ℕ
W v = row_of 1 0 v

abbrev w : ℕ
w = row_of 2 0 0

abbrev R : ℕ → ℕ
R i = row_of 3 i 0

abbrev r : ℕ → ℕ → ℕ
r i v = row_of 4 i v

-- a read that ends with a band
abbrev band : ℕ → ℕ → ℕ → ℕ
band i lowest highest = row_of 6 i (lowest * 65536 + highest)

-- writes and reads of two readers, and their strips
abbrev mixed : List ℕ
mixed = two (W 5 ∷ R 2 ∷ R 1 ∷ w ∷ r 2 7 ∷ W 6 ∷ r 1 5 ∷ [])

abbrev mixed_bytes : List ℕ
mixed_bytes = 0 ∷ 2 ∷ 1 ∷ 0 ∷ 2 ∷ 0 ∷ 1 ∷ []

abbrev mixed_rows : List ℕ
mixed_rows = two (W 5 ∷ w ∷ W 6 ∷ R 1 ∷ r 1 5 ∷ R 2 ∷ r 2 7 ∷ [])

-- a log with a band
abbrev banded : List ℕ
banded = two (W 5 ∷ R 2 ∷ band 2 3 7 ∷ R 1 ∷ w ∷ r 1 5 ∷ [])

abbrev banded_bytes : List ℕ
banded_bytes = 0 ∷ 2 ∷ 2 ∷ 1 ∷ 0 ∷ 1 ∷ []

abbrev banded_rows : List ℕ
banded_rows = two (W 5 ∷ w ∷ R 1 ∷ r 1 5 ∷ R 2 ∷ band 2 3 7 ∷ [])

-- "W 5, R 1, r 1 5, R 2, r 2 7: refused 12 with row 4"; its rows stand in strips already
abbrev unordered : List ℕ
unordered = two (W 5 ∷ R 1 ∷ r 1 5 ∷ R 2 ∷ r 2 7 ∷ [])

abbrev unordered_bytes : List ℕ
unordered_bytes = 0 ∷ 1 ∷ 1 ∷ 2 ∷ 2 ∷ []

-- sixteen readers
abbrev sixteen : List ℕ
sixteen = row_of 5 16 7 ∷ R 16 ∷ W 5 ∷ R 9 ∷ r 16 7 ∷ R 16 ∷ r 9 5 ∷ []

abbrev sixteen_bytes : List ℕ
sixteen_bytes = 16 ∷ 0 ∷ 9 ∷ 16 ∷ 16 ∷ 9 ∷ []

abbrev sixteen_rows : List ℕ
sixteen_rows = row_of 5 16 7 ∷ W 5 ∷ R 9 ∷ r 9 5 ∷ R 16 ∷ r 16 7 ∷ R 16 ∷ []

abbrev storings : List Session
storings =
    -- "a byte per row after row 0, naming its processor; and row 0, then all rows of processor 0, of 1, and so on, each in log order"
    stored mixed (marks 7) (marks 8) mixed_bytes mixed_rows
    ∷ stored banded (marks 6) (marks 7) banded_bytes banded_rows
    ∷ stored sixteen (marks 6) (marks 7) sixteen_bytes sixteen_rows
    ∷ stored (two []) [] (marks 1) [] (two [])
    -- 12 is not asked
    ∷ stored unordered (marks 5) (marks 6) unordered_bytes unordered
    -- "places beyond are untouched"
    ∷ stored mixed (marks 9) (marks 8) (mixed_bytes ++ marks 2) mixed_rows
    ∷ stored mixed (marks 7) (marks 11) mixed_bytes (mixed_rows ++ marks 3)
    ∷ stored (two []) (marks 2) (marks 3) (marks 2) (two [] ++ marks 2)
    -- "too few places lent, bytes or rows, is 11"
    ∷ not_stored mixed (marks 6) (marks 8) 11
    ∷ not_stored mixed (marks 7) (marks 7) 11
    ∷ not_stored (two []) (marks 3) [] 11
    -- "passes questions 9 and 10": no rows, 4,097 (9 before 10 and 11); rows that are not well formed
    ∷ not_stored [] (marks 2) (marks 2) 9
    ∷ not_stored (replicate 4097 0) (marks 2) (marks 2) 9
    ∷ not_stored (replicate 4096 0) (marks 2) (marks 2) 10
    ∷ not_stored (two (W 5 ∷ W 6 ∷ [])) (marks 2) (marks 3) 10
    ∷ not_stored (two (R 1 ∷ band 1 7 3 ∷ [])) (marks 4) (marks 4) 10
    -- 11 "last": 10 before it
    ∷ not_stored (two (W 5 ∷ W 6 ∷ [])) (marks 1) (marks 3) 10
    ∷ not_stored (two (W 5 ∷ W 6 ∷ [])) (marks 2) (marks 2) 10
    ∷ []

abbrev restorings : List Session
restorings =
    -- "Putting the strips back must give the log"
    restored mixed_bytes mixed_rows (marks 8) mixed
    ∷ restored banded_bytes banded_rows (marks 7) banded
    ∷ restored sixteen_bytes sixteen_rows (marks 7) sixteen
    ∷ restored [] (two []) (marks 1) (two [])
    ∷ restored unordered_bytes unordered (marks 6) unordered
    -- other bytes with these rows: another log
    ∷ restored (2 ∷ 0 ∷ 1 ∷ 0 ∷ 2 ∷ 0 ∷ 1 ∷ []) mixed_rows (marks 8) (two (R 2 ∷ W 5 ∷ R 1 ∷ w ∷ r 2 7 ∷ W 6 ∷ r 1 5 ∷ []))
    -- "places beyond are untouched"
    ∷ restored mixed_bytes mixed_rows (marks 10) (mixed ++ marks 2)
    ∷ restored [] (two []) (marks 3) (two [] ++ marks 2)
    -- "one byte fewer than rows, so no rows is 16"
    ∷ not_restored [] [] (marks 2) 16
    ∷ not_restored (0 ∷ []) [] (marks 2) 16
    ∷ not_restored (0 ∷ []) (two []) (marks 2) 16
    ∷ not_restored (1 ∷ []) (two (R 1 ∷ r 1 7 ∷ [])) (marks 4) 16
    ∷ not_restored (1 ∷ 1 ∷ []) (two (R 1 ∷ [])) (marks 4) 16
    -- "or processor (the bytes, sorted rising, are those of the rows after row 0)": other processors; rows that do not rise
    ∷ not_restored (2 ∷ []) (two (R 1 ∷ [])) (marks 4) 16
    ∷ not_restored (0 ∷ 1 ∷ 1 ∷ []) (two (W 5 ∷ w ∷ R 1 ∷ [])) (marks 4) 16
    ∷ not_restored (0 ∷ 1 ∷ []) (two (R 1 ∷ W 5 ∷ [])) (marks 4) 16
    ∷ not_restored (1 ∷ 0 ∷ []) (two (R 1 ∷ W 5 ∷ [])) (marks 4) 16
    ∷ not_restored (18 ∷ []) (two (R 17 ∷ [])) (marks 4) 16
    -- "16, then 9 and 10 for the log it would give": 16 before 9 and 10. That 4,097 rows which match are 9 is long_strips
    ∷ not_restored [] (replicate 4097 0) (marks 2) 16
    ∷ not_restored (1 ∷ []) (0 ∷ 0 ∷ []) (marks 2) 16
    -- 10, also of a processor that there is not
    ∷ not_restored (0 ∷ 0 ∷ []) (two (w ∷ W 5 ∷ [])) (marks 3) 10
    ∷ not_restored (17 ∷ []) (two (R 17 ∷ [])) (marks 2) 10
    ∷ not_restored (255 ∷ []) (two (R 255 ∷ [])) (marks 2) 10
    -- 11, and 10 before it
    ∷ not_restored mixed_bytes mixed_rows (marks 7) 11
    ∷ not_restored [] (two []) [] 11
    ∷ not_restored (0 ∷ 0 ∷ []) (two (w ∷ W 5 ∷ [])) (marks 2) 10
    ∷ []

-- Words as bytes, of which those between the second and the last are 0.
abbrev word : ℕ → ℕ → ℕ → List ℕ
word first second last = first ∷ second ∷ 0 ∷ 0 ∷ 0 ∷ 0 ∷ 0 ∷ last ∷ []

-- 5020000000000007, then R 2, W 9, r 2 7, w
abbrev log_bytes : List ℕ
log_bytes = word 0x50 0x20 7 ++ word 0x30 0x20 0 ++ word 0x10 0 9 ++ word 0x40 0x20 7 ++ word 0x20 0 0

-- its strips' rows, and its file
abbrev row_bytes : List ℕ
row_bytes = word 0x50 0x20 7 ++ word 0x10 0 9 ++ word 0x20 0 0 ++ word 0x30 0x20 0 ++ word 0x40 0x20 7

abbrev file : List ℕ
file = word 0 0 4 ++ (2 ∷ 0 ∷ 2 ∷ 0 ∷ []) ++ row_bytes

abbrev files : List Session
files =
    program (store_file log_bytes) 0 file
    ∷ program (restore_file file) 0 log_bytes
    -- row 0 alone
    ∷ program (store_file (word 0x50 0x20 7)) 0 (word 0 0 0 ++ word 0x50 0x20 7)
    ∷ program (restore_file (word 0 0 0 ++ word 0x50 0x20 7)) 0 (word 0x50 0x20 7)
    -- "a length not a multiple of 8 is 9", as no rows are; rows that are not well formed are 10
    ∷ program (store_file []) 9 []
    ∷ program (store_file (0x50 ∷ 0x20 ∷ 0 ∷ 0 ∷ 0 ∷ 0 ∷ 0 ∷ [])) 9 []
    ∷ program (store_file (log_bytes ++ 0 ∷ [])) 9 []
    ∷ program (store_file (word 0x50 0x20 7 ++ word 0x50 0x20 7)) 10 []
    -- files that cannot be taken apart: no count, a count above the bytes that follow, rows that are not whole, no rows
    ∷ program (restore_file []) 16 []
    ∷ program (restore_file (0 ∷ 0 ∷ 0 ∷ 0 ∷ 0 ∷ 0 ∷ 0 ∷ [])) 16 []
    ∷ program (restore_file (word 0 0 1)) 16 []
    ∷ program (restore_file (word 0 0 45 ++ (2 ∷ 0 ∷ 2 ∷ 0 ∷ []) ++ row_bytes)) 16 []
    ∷ program (restore_file (file ++ 0 ∷ [])) 16 []
    ∷ program (restore_file (word 0 0 0)) 16 []
    -- bytes and rows that do not match in number, or in processor
    ∷ program (restore_file (word 0 0 5 ++ (2 ∷ 0 ∷ 2 ∷ 0 ∷ 0 ∷ []) ++ row_bytes)) 16 []
    ∷ program (restore_file (word 0 0 4 ++ (2 ∷ 0 ∷ 1 ∷ 0 ∷ []) ++ row_bytes)) 16 []
    -- rows that are not well formed
    ∷ program (restore_file (word 0 0 1 ++ (17 ∷ []) ++ word 0x50 0x20 7 ++ word 0x31 0x10 0)) 10 []
    ∷ []

-- the numbers of the answers
abbrev numbers : Session
numbers = record {
  got = map (λ (r : Result ⊤ Fault). number_of r) (Ok tt ∷ Err WrongLength ∷ Err Malformed ∷ Err NoRoom ∷ Err Unmatched ∷ []) ∷ [];
  wanted = (0 ∷ 9 ∷ 10 ∷ 11 ∷ 16 ∷ []) ∷ [];
}

abbrev pub table : List Session
table = numbers ∷ storings ++ restorings ++ files

pub sessions : map (λ (s : Session). s.got) table ≡ map (λ (s : Session). s.wanted) table
unfolding Row.pack_row Bytes.read_rows Bytes.rows_of Bytes.rows_in Bytes.bytes_of Rows.kind_of Rows.begins Rows.processor_at WellFormed.head_ok WellFormed.fields WellFormed.open_at WellFormed.alternates WellFormed.row_ok WellFormed.all well_formed laid Gather.strip Gather.gather strip_bytes strip_rows Strips.back_at Strips.back_to log_of Strips.sorted Same.same matched storing restoring File.file_of File.bytes_in File.rest_in File.whole File.rows_file store_file File.log_file restore_file
sessions = refl
