-- The bench's print as the code makes it: with calls and answers as words, in places that are lent.
use Rattle.std.specs.Prelude.{ℕ, ◌+◌, ◌/◌, ◌^◌, eqb, ltb, length, take, replicate}
use mathlib.Core.List.{List, [], ◌++◌, flat_map}
use Rattle.words.specs.Choice.{pick}
use Rattle.common.specs.Answers.{number_of}
use Rattle.common.specs.CallWords.{calls_in}
use Rattle.common.specs.SetUp.{set_up_of}
use Rattle.common.specs.Register.{run_of}
use Rattle.protocol.specs.Rules.{ticket_rules}
use Rattle.script.specs.Script.{calls_from, end_from}
use Rattle.lines.specs.Lines.{bad_line, refused_line}
use Rattle.printing.specs.Print.{log_print, refusal_of, lent_cells, lent_rows}

-- an answer's refusal number
abbrev pub refusal_in : ℕ → ℕ
refusal_in w = w / 2 ^ 32

-- its line, if there is one
unfoldable pub refusal_text : ℕ → List ℕ
refusal_text w = pick (eqb (refusal_in w) 0) [] (refused_line (refusal_in w))

-- the number of the bad line behind so many calls, whose lines end at a place; 0 if that is the end of the bytes
unfoldable pub bad_number : ℕ → ℕ → ℕ → ℕ
bad_number calls end bytes = pick (ltb end bytes) (calls + 2) 0

-- the bad line, or the log
unfoldable pub ending : ℕ → ℕ → List ℕ → ℕ → List ℕ
ending n start rows bad = pick (eqb bad 0) (log_print n start rows) (bad_line bad)

-- 65,536 bytes have no more calls than that
abbrev pub most_calls : ℕ
most_calls = 16384

-- the set-up, and the calls in the words
unfoldable pub run_print : ℕ → ℕ → List ℕ → ℕ → List ℕ
run_print n start words bad =
    let o = set_up_of ticket_rules n start 0 lent_cells lent_rows in
    let r = run_of ticket_rules o.state o.table o.log (calls_in words (replicate most_calls 0)) in
    pick (eqb (number_of o.answer) 0)
    (flat_map refusal_of r.answers ++ ending n start (take r.state.head.used r.log) bad)
    (refused_line (number_of o.answer))

-- the calls from a place on
unfoldable pub script_print : ℕ → ℕ → List ℕ → ℕ → List ℕ
script_print n start bytes from =
    let calls = calls_from most_calls bytes from in
    run_print n start calls (bad_number (length calls) (end_from most_calls bytes from) (length bytes))
