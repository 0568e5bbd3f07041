-- What the bench prints, of the bytes of its input.
use Rattle.std.specs.Prelude.{ℕ, ◌+◌, Bool, ◌&&◌, eqb, leb, ltb, length, get_or, take, replicate}
use mathlib.Core.List.{List, [], ◌++◌, map, flat_map}
use Rattle.words.specs.Choice.{pick}
use Rattle.common.specs.Answers.{Answer, number_of}
use Rattle.common.specs.CallWords.{call_in}
use Rattle.common.specs.SetUp.{Outcome, set_up_of}
use Rattle.common.specs.Register.{run_of}
use Rattle.protocol.specs.Rules.{ticket_rules}
use Rattle.fields.specs.Fields.{place_of, numbers_in, all_numbers}
use Rattle.script.specs.Script.{calls_from, end_from}
use Rattle.lines.specs.Lines.{bad_line, refused_line, readers_line, rows_text}
use Rattle.printing.specs.Verdict.{verdict_line}

-- The listing and the order of a log: the readers and the start reading, which row 0 tells, the rows behind it, and "At the end `order`".
unfoldable pub log_print : ℕ → ℕ → List ℕ → List ℕ
log_print n start rows = readers_line n start ++ rows_text rows ++ verdict_line rows

-- "A refused call prints `refused k` when it is met, ahead of the listing"
unfoldable pub refusal_of : Answer → List ℕ
refusal_of a = pick (eqb (number_of a) 0) [] (refused_line (number_of a))

-- the place behind the first line
abbrev pub second_line : List ℕ → ℕ
second_line bytes = place_of 10 bytes 0 + 1

-- "then lines `W v`, `R i`, `S p`": the calls up to the first bad line. No line is without a byte.
abbrev pub calls : List ℕ → List ℕ
calls bytes = calls_from (length bytes) bytes (second_line bytes)

-- the number of the line behind them, "k from 1": the first line is `n start`, and each call has a line
abbrev pub next_line : List ℕ → ℕ
next_line bytes = length (calls bytes) + 2

-- it is there, and so it is bad
abbrev pub bad_behind : List ℕ → Bool
bad_behind bytes = ltb (end_from (length bytes) bytes (second_line bytes)) (length bytes)

-- The calls, made behind the set-up o. "Anything else prints `bad line k`, k from 1, and ends without a listing"
unfoldable pub calls_print : ℕ → ℕ → List ℕ → Outcome → List ℕ
calls_print n start bytes o =
    let r = run_of ticket_rules o.state o.table o.log (map call_in (calls bytes)) in
    flat_map refusal_of r.answers
    ++ pick (bad_behind bytes) (bad_line (next_line bytes)) (log_print n start (take r.state.head.used r.log))

-- cells enough for 16 readers, and "The log has 4,096 rows."
abbrev pub lent_cells : List ℕ
lent_cells = replicate 272 0

abbrev pub lent_rows : List ℕ
lent_rows = replicate 4096 0

-- The set-up of n readers, and the calls. "a refused set-up is the whole print"
unfoldable pub register_print : ℕ → ℕ → List ℕ → List ℕ
register_print n start bytes =
    let o = set_up_of ticket_rules n start 0 lent_cells lent_rows in
    pick (eqb (number_of o.answer) 0) (calls_print n start bytes o) (refused_line (number_of o.answer))

-- the bytes of the first line, and the numbers of its fields
abbrev pub first_line : List ℕ → List ℕ
first_line bytes = take (place_of 10 bytes 0) bytes

abbrev pub first_numbers : List ℕ → List ℕ
first_numbers bytes = numbers_in (first_line bytes)

-- "a line `n start`"; "each line ends with a line feed"
unfoldable pub good_first : List ℕ → Bool
good_first bytes = ltb (place_of 10 bytes 0) (length bytes) && all_numbers 2 (first_numbers bytes)

-- "Standard input, at most 65,536 bytes"
abbrev pub most_bytes : ℕ
most_bytes = 65536

-- The whole print. "longer input and empty input print `bad line 1` and no more"
unfoldable pub bench_print : List ℕ → List ℕ
bench_print bytes =
    pick (leb (length bytes) most_bytes && good_first bytes)
    (register_print (get_or (first_numbers bytes) 0 0) (get_or (first_numbers bytes) 1 0) bytes)
    (bad_line 1)
