-- The calls of the bench's input: "then lines `W v`, `R i`, `S p`"; "one space between; each line ends with a line feed. Anything else
-- prints `bad line k`".
use Rattle.std.specs.Prelude.{ℕ, zero, suc, ◌+◌, ◌-◌, ◌*◌, ◌^◌, ◌≡◌, ◌&&◌, List, [], ◌∷◌, eqb, ltb, length, get_or, take, drop}
use Rattle.std.proofs.lemmas.List.Edits.{sets}
use Rattle.words.specs.Choice.{pick}
use Rattle.fields.specs.Fields.{place_of, none, number_in}

-- the kind of a call by its letter: 1 for `W`, 2 for `R`, 3 for `S`, 0 for any other
unfoldable pub kind_in : ℕ → ℕ
kind_in b = pick (eqb b 87) 1 (pick (eqb b 82) 2 (pick (eqb b 83) 3 0))

-- the call of a line as a word, its kind in the upper half and its number in the lower, or 0 if the line is bad
unfoldable pub call_in : List ℕ → ℕ
call_in line =
    pick (ltb 0 (kind_in (get_or line 0 0)) && (eqb (get_or line 1 0) 32 && ltb (number_in (drop 2 line)) none))
    (kind_in (get_or line 0 0) * 2 ^ 32 + number_in (drop 2 line))
    0

-- the call of the line from place p on as a word, or 0 if the line is bad or has no line feed
unfoldable pub call_from : List ℕ → ℕ → ℕ
call_from bytes p =
    pick (ltb (place_of 10 bytes p) (length bytes)) (call_in (take (place_of 10 bytes p - p) (drop p bytes))) 0

-- the calls of the lines from place p on, up to the first bad line, and at most k
unfoldable pub calls_from : ℕ → List ℕ → ℕ → List ℕ
calls_from zero bytes p = []
calls_from (suc k) bytes p =
    pick (eqb (call_from bytes p) 0) [] (call_from bytes p ∷ calls_from k bytes (place_of 10 bytes p + 1))

-- the place behind their lines
unfoldable pub end_from : ℕ → List ℕ → ℕ → ℕ
end_from zero bytes p = p
end_from (suc k) bytes p = pick (eqb (call_from bytes p) 0) p (end_from k bytes (place_of 10 bytes p + 1))

-- the calls from place p on, put into words that become x: as many as there are, and as there is room for
pub record Reads (bytes : List ℕ) (p : ℕ) (words x : List ℕ) (calls end : ℕ) : Type 0 where
  pub words_are : x ≡ sets words 0 (calls_from (length words) bytes p)
  pub count_is : calls ≡ length (calls_from (length words) bytes p)
  pub end_is : end ≡ end_from (length words) bytes p
