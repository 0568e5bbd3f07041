-- What the program `sizing` prints (document 02, card 14), of the bytes of its input.
use Rattle.std.specs.Prelude.{ℕ, Bool, true, false, List, [], ◌++◌, get_or, Ok, Err}
use Rattle.words.specs.Choice.{pick}
use Rattle.figures.specs.Sizing.{Sizing}
use Rattle.figures.specs.declared.NoFigures.TheVariants.{Refused, Larger, TooLong}
use Rattle.figures.specs.Sizing.{size_of, sizing_reply}
use Rattle.fields.specs.Fields.{given, one_line_of}
use Rattle.lines.specs.Ascii.{ascii}
use Rattle.lines.specs.Lines.{decimal, line_of, bad_line, refused_line}
use Rattle.printing.specs.Print.{most_bytes}

-- a value of an answer, from 0 on
abbrev pub value_of : Sizing → ℕ → ℕ
value_of s i = get_or (sizing_reply s).values i 0

-- "Tell me the log rows .., and the least and most words moved": a register's name, and `rows R least L most M`
unfoldable pub figures_line : List ℕ → Sizing → List ℕ
figures_line name s =
    name
    ++ ascii " rows "
    ++ decimal (value_of s 0)
    ++ ascii " least "
    ++ decimal (value_of s 1)
    ++ line_of (ascii " most ") (value_of s 2)

-- "Question 1 comes first; then larger numbers, then more rows than 4,096, each get a plain answer of their own, no figures and no refusal.":
-- `refused 1`, `more than 2000`, `more than 4096 rows`
unfoldable pub answer_line : List ℕ → Sizing → List ℕ
answer_line name (Err Refused) = refused_line (sizing_reply (Err Refused)).number
answer_line name (Err Larger) = line_of (ascii "more than ") (value_of (Err Larger) 0)
answer_line name (Err TooLong) = ascii "more than " ++ decimal (value_of (Err TooLong) 0) ++ ascii " rows\n"
answer_line name (Ok f) = figures_line name (Ok f)

abbrev pub has_figures : Sizing → Bool
has_figures (Err Refused) = false
has_figures (Err Larger) = false
has_figures (Err TooLong) = false
has_figures (Ok f) = true

-- "Both registers": `tickets` is the first, `counted` the second; an answer without figures is the whole print
unfoldable pub sizing_text : ℕ → ℕ → ℕ → List ℕ
sizing_text n writes reads =
    let tickets = size_of false n writes reads in
    answer_line (ascii "tickets") tickets ++ pick (has_figures tickets) (answer_line (ascii "counted") (size_of true n writes reads)) []

-- The whole print. "Before a course I give n, writes and reads.": a line of these; a bad line, input after it and longer input than the bench's
-- give `bad line 1`
unfoldable pub sizing_print : List ℕ → List ℕ
sizing_print bytes = pick (one_line_of most_bytes 3 bytes) (sizing_text (given bytes 0) (given bytes 1) (given bytes 2)) (bad_line 1)
