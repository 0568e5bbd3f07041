-- The fields of the bench's input. "a line `n start`, then lines .. (numbers without sign, 32 bits)"; "Fields are decimal, leading
-- zeros allowed, one space between".
use Rattle.std.specs.Prelude.{ℕ, ◌+◌, ◌-◌, ◌*◌, ◌^◌, Bool, true, false, ◌&&◌, List, [], ◌∷◌, map, eqb, leb, ltb, length, get_or, take, drop}
use Rattle.words.specs.Choice.{pick}

-- how many bytes stand before the first x
unfoldable pub before : ℕ → List ℕ → ℕ
before x [] = 0
before x (b ∷ bs) = pick (eqb b x) 0 (before x bs + 1)

-- the place of the first x from place p on, or the end
unfoldable pub place_of : ℕ → List ℕ → ℕ → ℕ
place_of x bytes p = p + before x (drop p bytes)

-- `0` to `9`
abbrev pub is_digit : ℕ → Bool
is_digit b = leb 48 b && leb b 57

unfoldable pub all_digits : List ℕ → Bool
all_digits [] = true
all_digits (b ∷ bs) = is_digit b && all_digits bs

-- the number that decimal digits give, behind digits that gave v
unfoldable pub value_from : ℕ → List ℕ → ℕ
value_from v [] = v
value_from v (b ∷ bs) = value_from (v * 10 + (b - 48)) bs

abbrev pub not_empty : List ℕ → Bool
not_empty [] = false
not_empty (b ∷ bs) = true

-- no number: one more than the largest of 32 bits
abbrev pub none : ℕ
none = 2 ^ 32

-- the number of a field, or none
unfoldable pub number_in : List ℕ → ℕ
number_in bs = pick (not_empty bs && (all_digits bs && ltb (value_from 0 bs) none)) (value_from 0 bs) none

-- a byte more at the front of the first field
unfoldable pub longer : ℕ → List (List ℕ) → List (List ℕ)
longer b [] = (b ∷ []) ∷ []
longer b (f ∷ fs) = (b ∷ f) ∷ fs

-- "one space between": the fields of a line are what stands before the first space, between two spaces, and behind the last; a line
-- without a space is one field
unfoldable pub fields_of : List ℕ → List (List ℕ)
fields_of [] = [] ∷ []
fields_of (b ∷ bs) = pick (eqb b 32) ([] ∷ fields_of bs) (longer b (fields_of bs))

-- their numbers, or none in the place of a field that is no number
unfoldable pub numbers_in : List ℕ → List ℕ
numbers_in line = map number_in (fields_of line)

-- each is a number
unfoldable pub each_number : List ℕ → Bool
each_number [] = true
each_number (x ∷ xs) = ltb x none && each_number xs

-- there are k fields, and each is a number
unfoldable pub all_numbers : ℕ → List ℕ → Bool
all_numbers k ns = eqb (length ns) k && each_number ns

-- the bytes of the first line, the numbers of its fields, and the one at place i of them
abbrev pub first_line : List ℕ → List ℕ
first_line bytes = take (place_of 10 bytes 0) bytes

abbrev pub first_numbers : List ℕ → List ℕ
first_numbers bytes = numbers_in (first_line bytes)

abbrev pub given : List ℕ → ℕ → ℕ
given bytes i = get_or (first_numbers bytes) i 0

-- the first line feed ends the input
abbrev pub one_line : List ℕ → Bool
one_line bytes = eqb (place_of 10 bytes 0 + 1) (length bytes)

-- an input that is one line of k numbers, of so many bytes at most
unfoldable pub one_line_of : ℕ → ℕ → List ℕ → Bool
one_line_of most k bytes = leb (length bytes) most && (one_line bytes && all_numbers k (first_numbers bytes))
