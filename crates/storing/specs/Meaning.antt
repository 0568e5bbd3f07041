-- What the answers mean, in the words of document 02.
use Rattle.std.specs.Prelude.{ℕ, ◌+◌, ◌-◌, ◌≤◌, ◌<◌, ◌≡◌, ◌⊎◌, List, map, length, get_or, take, drop}
use Rattle.history.specs.Rows.{processor_of, processor_at}
use Rattle.history.specs.Form.{LogFormed}
use Rattle.judging.specs.Meaning.{RightLength, Formed}
use Rattle.storing.specs.Gather.{count_of}

-- k is a row of the log after row 0
abbrev After0 : List ℕ → ℕ → Type 0
After0 log k = (1 ≤ k) × (k < length log)

-- The strips of a log: bytes, and rows.
pub record StripsOf (log bytes rows : List ℕ) : Type 0 where
  -- "a byte per row after row 0, naming its processor"
  pub bytes_number : length bytes + 1 ≡ length log
  pub naming : (k : ℕ) → After0 log k → get_or bytes (k - 1) 0 ≡ processor_at log k
  -- "and row 0, then"
  pub rows_number : length rows ≡ length log
  pub row_0 : get_or rows 0 0 ≡ get_or log 0 0
  -- each row of the log at a place of its own
  pub place : ℕ → ℕ
  pub inside : (k : ℕ) → After0 log k → After0 rows (place k)
  pub there : (k : ℕ) → After0 log k → get_or rows (place k) 0 ≡ get_or log k 0
  -- "all rows of processor 0, of 1, and so on"
  pub rising : (j k : ℕ) → After0 log j → After0 log k → processor_at log j < processor_at log k → place j < place k
  -- "each in log order"
  pub in_order : (j k : ℕ) → After0 log j → After0 log k → processor_at log j ≡ processor_at log k → j < k → place j < place k

-- What 16 asks for: "one byte fewer than rows, so no rows is 16"; "the bytes, sorted rising, are those of the rows after row 0", so that the rows'
-- processors rise, and have each number as often as the bytes do.
pub record Match (bytes rows : List ℕ) : Type 0 where
  pub number : length rows ≡ length bytes + 1
  pub rising : (i j : ℕ) → 1 ≤ i → i ≤ j → j < length rows → processor_at rows i ≤ processor_at rows j
  pub as_often : (p : ℕ) → count_of p bytes ≡ count_of p (map processor_of (drop 1 rows))

-- The first n of the places, which were o and have become o', are written; "places beyond are untouched".
pub record Front (o o' : List ℕ) (n : ℕ) : Type 0 where
  pub room : n ≤ length o
  pub beyond : drop n o' ≡ drop n o

-- What storing says: the first question that gets a no.
pub data StoreSays (log b r b' r' : List ℕ) : ℕ → Type 0 where
  says_0 : Formed log → Front b b' (length log - 1) → Front r r' (length log) → StripsOf log (take (length log - 1) b') (take (length log) r')
      → StoreSays log b r b' r' 0
  says_9 : ¬ RightLength log → b' ≡ b → r' ≡ r → StoreSays log b r b' r' 9
  says_10 : RightLength log → ¬ LogFormed log → b' ≡ b → r' ≡ r → StoreSays log b r b' r' 10
  says_11 : Formed log → (length b < length log - 1) ⊎ (length r < length log) → b' ≡ b → r' ≡ r → StoreSays log b r b' r' 11

-- What restoring says. Strips that match are those of one log only, and it has as many rows.
pub data RestoreSays (bytes rows o o' : List ℕ) : ℕ → Type 0 where
  says_0 : Match bytes rows → Front o o' (length rows) → Formed (take (length rows) o') → StripsOf (take (length rows) o') bytes rows
      → RestoreSays bytes rows o o' 0
  says_16 : ¬ Match bytes rows → o' ≡ o → RestoreSays bytes rows o o' 16
  says_9 : Match bytes rows → ¬ RightLength rows → o' ≡ o → RestoreSays bytes rows o o' 9
  says_10 : Match bytes rows → RightLength rows → (log : List ℕ) → StripsOf log bytes rows → ¬ LogFormed log → o' ≡ o → RestoreSays bytes rows o o' 10
  says_11 : Match bytes rows → (log : List ℕ) → StripsOf log bytes rows → Formed log → length o < length rows → o' ≡ o → RestoreSays bytes rows o o' 11
