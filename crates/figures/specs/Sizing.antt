-- The figures of a drill with so many readers, writes and reads (document 02, card 14), of the first register or of the counted one.
use Rattle.std.specs.Prelude.{ℕ, ◌+◌, ◌-◌, ◌*◌, min, max, Bool, ◌&&◌, [], ◌∷◌, leb, Result, Ok, Err}
use Rattle.words.specs.Choice.{pick}
use Rattle.common.specs.Answers.{Reply, refusal_number}
use Rattle.common.specs.declared.Refusal.TheVariants.{Readers}
use Rattle.common.specs.SetUp.{readers_fit}
use Rattle.figures.specs.declared.Figures.{Figures}
use Rattle.figures.specs.declared.NoFigures.{NoFigures}
use Rattle.figures.specs.declared.NoFigures.TheVariants.{Refused, Larger, TooLong}

-- an answer: the figures, or why there are none
abbrev pub Sizing : Type 0
Sizing = Result Figures NoFigures

-- "the log rows with which no begin is refused 7": row 0, and two for each operation; set-up takes no fewer than 3
unfoldable pub rows_for : ℕ → ℕ → ℕ
rows_for writes reads = max 3 (2 * (writes + reads) + 1)

-- the words of a write, of a read, and those that a read's second attempt adds
unfoldable pub write_words : Bool → ℕ → ℕ
write_words counted n = pick counted n (2 * n)

unfoldable pub read_words : Bool → ℕ → ℕ
read_words counted n = pick counted (2 * n - 1) (2 * n + 3)

unfoldable pub second_words : Bool → ℕ → ℕ
second_words counted n = pick counted 0 (n + 3)

-- "the least .. words moved if all end": no read has a second attempt
unfoldable pub least_words : Bool → ℕ → ℕ → ℕ → ℕ
least_words counted n writes reads = write_words counted n * writes + read_words counted n * reads

-- "and most": as many reads have one as there are reads, and as the writes have stores
unfoldable pub most_words : Bool → ℕ → ℕ → ℕ → ℕ
most_words counted n writes reads = least_words counted n writes reads + second_words counted n * min reads (n * writes)

-- "writes and reads up to 2,000 each"; "more rows than 4,096"
abbrev pub most_of : ℕ
most_of = 2000

abbrev pub most_rows : ℕ
most_rows = 4096

-- "Question 1 comes first; then larger numbers, then more rows than 4,096, each get a plain answer of their own, no figures and no refusal."
unfoldable pub size_of : Bool → ℕ → ℕ → ℕ → Sizing
size_of counted n writes reads =
    pick (readers_fit n)
    (pick (leb writes most_of && leb reads most_of)
    (pick (leb (rows_for writes reads) most_rows)
    (Ok (record {
      rows = rows_for writes reads;
      least = least_words counted n writes reads;
      most = most_words counted n writes reads;
    }))
    (Err TooLong))
    (Err Larger))
    (Err Refused)

-- the number of an answer, 0 where it is no refusal, and its values: the figures, or the limit that was passed
abbrev pub sizing_reply : Sizing → Reply
sizing_reply (Err Refused) = record { number = refusal_number Readers; values = [] }
sizing_reply (Err Larger) = record { number = 0; values = most_of ∷ [] }
sizing_reply (Err TooLong) = record { number = 0; values = most_rows ∷ [] }
sizing_reply (Ok f) = record { number = 0; values = f.rows ∷ f.least ∷ f.most ∷ [] }
