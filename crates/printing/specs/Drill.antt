-- What the program `drill` prints (document 02, card 11), of the bytes of its input.
use Rattle.std.specs.Prelude.{ℕ, ◌+◌, Bool, ◌&&◌, eqb, leb, length, get_or, take, drop, replicate}
use mathlib.Core.List.{List, [], ◌∷◌, ◌++◌, map, flat_map}
use Rattle.words.specs.Choice.{pick}
use Rattle.common.specs.declared.Refusal.TheVariants.{Readers}
use Rattle.common.specs.Answers.{Answer, refusal_number, number_of}
use Rattle.common.specs.declared.calls.Call.{Call}
use Rattle.common.specs.declared.calls.Call.TheVariants.{Write as write, Read as read, Step as step}
use Rattle.common.specs.SetUp.{readers_fit}
use Rattle.common.specs.Register.{Ran, ran_from}
use Rattle.protocol.specs.Rules.{ticket_rules}
use Rattle.schedules.specs.Schedules.{Turn, w, r, schedules}
use Rattle.fields.specs.Fields.{place_of, all_numbers}
use Rattle.lines.specs.Lines.{bad_line, refused_line}
use Rattle.printing.specs.Verdict.{verdict_line}
use Rattle.printing.specs.Print.{first_numbers, lent_cells, most_bytes}

-- "a writer's a turns and reader 1's b turns": a turn is a sub-step
abbrev pub turn_call : Turn → Call
turn_call w = step 0
turn_call r = step 1

-- "begins a write of v and then a read, runs the turns"
abbrev pub drill_calls : ℕ → List Turn → List Call
drill_calls v s = write v ∷ read 1 ∷ map turn_call s

-- room for the rows of both operations
abbrev pub drill_rows : List ℕ
drill_rows = replicate 5 0

-- "For each schedule the program takes a fresh register": of n readers, with a start reading
abbrev pub drill_run : ℕ → ℕ → ℕ → List Turn → Ran
drill_run n start v s = ran_from ticket_rules n start 0 lent_cells drill_rows (drill_calls v s)

-- "the turns as w and r, a refused one as a capital": each turn with its answer
unfoldable pub turn_letter : Turn → Answer → ℕ
turn_letter w a = pick (eqb (number_of a) 0) 119 87
turn_letter r a = pick (eqb (number_of a) 0) 114 82

unfoldable pub turn_letters : List Turn → List Answer → List ℕ
turn_letters [] answers = []
turn_letters (t ∷ s) [] = []
turn_letters (t ∷ s) (a ∷ answers) = turn_letter t a ∷ turn_letters s answers

-- "prints a line: the turns .., a space, the judge's line as on the bench". The first two answers are those of the begins.
unfoldable pub drill_line : ℕ → ℕ → ℕ → List Turn → List ℕ
drill_line n start v s =
    let x = drill_run n start v s in
    turn_letters s (drop 2 x.answers) ++ (32 ∷ verdict_line (take x.state.head.used x.log))

-- The lines of all schedules; "then n not 1 to 16 `refused 1`, and no more"
unfoldable pub drill_lines : ℕ → ℕ → ℕ → ℕ → ℕ → List ℕ
drill_lines n start v a b =
    pick (readers_fit n) (flat_map (drill_line n start v) (schedules a b)) (refused_line (refusal_number Readers))

-- "The input line gives n, start, v, a and b."
abbrev pub given : List ℕ → ℕ → ℕ
given bytes i = get_or (first_numbers bytes) i 0

abbrev pub turns_given : List ℕ → ℕ
turns_given bytes = given bytes 3 + given bytes 4

-- the first line feed ends the input
abbrev pub one_line : List ℕ → Bool
one_line bytes = eqb (place_of 10 bytes 0 + 1) (length bytes)

-- The whole print. "a bad input line, input after it, or a+b not 1 to 16, gives `bad line 1`"; longer input than the bench's does, too.
unfoldable pub drill_print : List ℕ → List ℕ
drill_print bytes =
    pick
    (leb (length bytes) most_bytes
    && (one_line bytes && (all_numbers 5 (first_numbers bytes) && (leb 1 (turns_given bytes) && leb (turns_given bytes) 16))))
    (drill_lines (given bytes 0) (given bytes 1) (given bytes 2) (given bytes 3) (given bytes 4))
    (bad_line 1)
