-- A stored log as a file, for the program `strips`: the bytes' count in 8 bytes, the bytes, the rows. Numbers stand as in a log's
-- bytes, "most significant first".
use Rattle.std.specs.Prelude.{ℕ, ◌%◌, Bool, ◌&&◌, List, [], ◌∷◌, ◌++◌, eqb, leb, length, take, drop}
use Rattle.words.specs.Choice.{pick}
use Rattle.logbytes.specs.Bytes.{word_at, rows_of, rows_in, bytes_of}
use Rattle.storing.specs.Strips.{strip_bytes, strip_rows, log_of}
use Rattle.storing.specs.Answer.{storing, restoring}

unfoldable pub file_of : List ℕ → List ℕ → List ℕ
file_of bytes rows = bytes_of (length bytes ∷ []) ++ (bytes ++ bytes_of rows)

-- what stands in a file: the bytes' count, the bytes, and the rows' bytes
abbrev pub count_in : List ℕ → ℕ
count_in file = word_at file 0

unfoldable pub bytes_in : List ℕ → List ℕ
bytes_in file = take (count_in file) (drop 8 file)

unfoldable pub rest_in : List ℕ → List ℕ
rest_in file = drop (count_in file) (drop 8 file)

-- whether all of that is there, the rows whole
unfoldable pub whole : List ℕ → Bool
whole file = leb 8 (length file) && (leb (count_in file) (length (drop 8 file)) && eqb (length (rest_in file) % 8) 0)

-- what the program makes of its input: a refusal's number, or 0 and the bytes that it writes
pub record Written : Type 0 where
  pub number : ℕ
  pub bytes : List ℕ

abbrev pub refused : ℕ → Written
refused k = record { number = k; bytes = [] }

abbrev pub written : List ℕ → Written
written l = record { number = 0; bytes = l }

-- the file of a log's rows; there are places for the strips of every log
unfoldable pub rows_file : List ℕ → Written
rows_file log = storing log 4095 4096 refused (written (file_of (strip_bytes log) (strip_rows log)))

-- `strips store`, of "the log as bytes": "a length not a multiple of 8 is 9", as no rows are
unfoldable pub store_file : List ℕ → Written
store_file log = rows_file (rows_in log 4096)

-- the bytes of the log that strips give; there are places for every log
unfoldable pub log_file : List ℕ → List ℕ → Written
log_file bytes rows = restoring bytes rows 4096 refused (written (bytes_of (log_of bytes rows)))

-- `strips restore`, of a file. One that cannot be taken apart has bytes and rows that "do not match in number": 16. One longer than 65,536
-- bytes, which no stored log is, is not looked into: 9.
unfoldable pub restore_file : List ℕ → Written
restore_file file =
    pick (leb (length file) 65536)
    (pick (whole file) (log_file (bytes_in file) (rows_of (rest_in file))) (refused 16))
    (refused 9)
