-- Document 01's example and others, as one table that one fact covers. What is to be printed is document 01's or an outside model's.
use Prim.Native.Nat.{ℕ}
use Prim.Native.String.{String}
use mathlib.Core.Path.{◌≡◌, refl}
use mathlib.Core.List.{List, [], ◌∷◌, map, flat_map}
use lib.Dec.{eqb}
use Rattle.words.specs.Choice.{pick}
use Rattle.words.specs.Cell
use Rattle.words.specs.Row
use Rattle.words.specs.Row.{row_of}
use Rattle.words.specs.Index
use Rattle.words.specs.Counting
use Rattle.logbytes.specs.Bytes
use Rattle.logbytes.specs.Bytes.{bytes_of}
use Rattle.history.specs.Search
use Rattle.history.specs.Rows
use Rattle.history.specs.WellFormed
use Rattle.history.specs.History
use Rattle.history.specs.Linearization
use Rattle.history.specs.Sweep
use Rattle.history.specs.Listing
use Rattle.judging.specs.Fold
use Rattle.judging.specs.Answer
use Rattle.lags.specs.Lag
use Rattle.lags.specs.Sheet as LagSheet
use Rattle.common.specs.Head
use Rattle.common.specs.Rules
use Rattle.common.specs.SetUp
use Rattle.common.specs.Register
use Rattle.protocol.specs.Tickets
use Rattle.protocol.specs.State
use Rattle.protocol.specs.Write
use Rattle.protocol.specs.Read
use Rattle.protocol.specs.Rules as TicketRules
use Rattle.figures.specs.Sizing as Figured
use Rattle.schedules.specs.Schedules
use Rattle.fields.specs.Fields
use Rattle.script.specs.Script
use Rattle.lines.specs.Ascii.{ascii}
use Rattle.lines.specs.Lines
use Rattle.printing.specs.Verdict.{verdict_line, from_bytes, verdict_print}
use Rattle.printing.specs.Sheet
use Rattle.printing.specs.Sheet.{sheet_print}
use Rattle.printing.specs.Drill
use Rattle.printing.specs.Drill.{drill_line, drill_print}
use Rattle.printing.specs.Sizing
use Rattle.printing.specs.Sizing.{sizing_print}
use Rattle.printing.specs.Print.{bench_print, good_first, register_print, calls_print, refusal_of, log_print}

-- a program's print for its input, and what it is to be
pub record Session : Type 0 where
  pub got : List ℕ
  pub wanted : String

abbrev bench : String → String → Session
bench input wanted = record { got = bench_print (ascii input); wanted = wanted }

-- the program `verdict` on bytes, and on the bytes of a log
abbrev bytes : List ℕ → String → Session
bytes input wanted = record { got = verdict_print input; wanted = wanted }

abbrev log : List ℕ → String → Session
log rows wanted = bytes (bytes_of rows) wanted

-- the program `sheet` on bytes
abbrev sheet : List ℕ → String → Session
sheet input wanted = record { got = sheet_print input; wanted = wanted }

-- the program `drill`
abbrev drill : String → String → Session
drill input wanted = record { got = drill_print (ascii input); wanted = wanted }

-- its line for one schedule of one reader, a write of 9 and start reading 7
abbrev line : String → String → Session
line turns wanted = record { got = drill_line 1 7 9 (map (λ (c : ℕ). pick (eqb c 119) Schedules.w Schedules.r) (ascii turns)); wanted = wanted }

-- the program `sizing`
abbrev sizing : String → String → Session
sizing input wanted = record { got = sizing_print (ascii input); wanted = wanted }

-- row 0 of two readers with start reading 7, and rows in the letters of the listing
abbrev two : List ℕ → List ℕ
two rows = row_of 5 2 7 ∷ rows

abbrev W : ℕ → ℕ
W v = row_of 1 0 v

abbrev w : ℕ
w = row_of 2 0 0

abbrev R : ℕ → ℕ
R i = row_of 3 i 0

abbrev r : ℕ → ℕ → ℕ
r i v = row_of 4 i v

abbrev pub table : List Session
table =
    -- "For `1 7`, `W 9`, `S 0`, `S 0`, `R 1`, then `S 1` five times (one call a line), it prints"
    bench "1 7\nW 9\nS 0\nS 0\nR 1\nS 1\nS 1\nS 1\nS 1\nS 1\n" "readers 1 start 7\n1 W 9\n2 w\n3 R 1\n4 r 1 9\norder 1 3\n"
    -- "n=2: write of 9 stopped after 3 sub-steps, reader 1 reads 9, then reader 2 reads 9"
    ∷ bench
    "2 7\nW 9\nS 0\nS 0\nS 0\nR 1\nS 1\nS 1\nS 1\nS 1\nS 1\nS 1\nS 1\nR 2\nS 2\nS 2\nS 2\nS 2\nS 2\nS 2\nS 2\n"
    "readers 2 start 7\n1 W 9\n2 R 1\n3 r 1 9\n4 R 2\n5 r 2 9\norder 1 2 4\n"
    -- no call; "leading zeros allowed"
    ∷ bench "1 7\n" "readers 1 start 7\norder\n"
    ∷ bench "01 007\nW 0009\n" "readers 1 start 7\n1 W 9\norder\n"
    -- "A refused call prints `refused k` when it is met, ahead of the listing"
    ∷ bench "1 7\nR 2\nS 0\nW 4\nW 5\n" "refused 5\nrefused 8\nrefused 6\nreaders 1 start 7\n1 W 4\norder\n"
    -- "a refused set-up is the whole print"
    ∷ bench "0 7\n" "refused 1\n"
    ∷ bench "17 7\nW\n" "refused 1\n"
    -- "Anything else prints `bad line k`, k from 1, and ends without a listing"; "each line ends with a line feed"
    ∷ bench "1 7\nW 9\nS 0\nX 0\nS 0\n" "bad line 4\n"
    ∷ bench "1 7\nS 0\nW\nS 5\n" "refused 8\nbad line 3\n"
    ∷ bench "1 7\nW 9" "bad line 2\n"
    ∷ bench "1 7" "bad line 1\n"
    ∷ bench "1\nW 9\n" "bad line 1\n"
    ∷ bench "x 7\n" "bad line 1\n"
    -- "numbers without sign, 32 bits"; "one space between"
    ∷ bench "1 4294967295\n" "readers 1 start 4294967295\norder\n"
    ∷ bench "1 4294967296\n" "bad line 1\n"
    ∷ bench "+1 7\n" "bad line 1\n"
    ∷ bench "1  7\n" "bad line 1\n"
    ∷ bench "1 7 \n" "bad line 1\n"
    ∷ bench "1 7 7\n" "bad line 1\n"
    ∷ bench "1 7\r\n" "bad line 1\n"
    ∷ bench "\n" "bad line 1\n"
    ∷ bench "1 7\nW 4294967295\nW 4294967296\n" "bad line 3\n"
    ∷ bench "1 7\nW 9\n\nS 0\n" "bad line 3\n"
    ∷ bench "1 7\nw 9\n" "bad line 2\n"
    ∷ bench "1 7\nW\t9\n" "bad line 2\n"
    ∷ bench "1 7\nR 0\nS 4294967295\n" "refused 5\nrefused 5\nreaders 1 start 7\norder\n"
    ∷ bench "1 7\nW 9 \n" "bad line 2\n"
    -- "empty input print[s] `bad line 1`"
    ∷ bench "" "bad line 1\n"
    -- "W 5, R 1, r 1 5, R 2, r 2 7: refused 12 with row 4"; "W 5, R 2, r 2 7, R 1, r 1 5: order 2 1 4"; "order 1 2 4 8"
    ∷ log (two (W 5 ∷ R 1 ∷ r 1 5 ∷ R 2 ∷ r 2 7 ∷ [])) "no order 4\n"
    ∷ log (two (W 5 ∷ R 2 ∷ r 2 7 ∷ R 1 ∷ r 1 5 ∷ [])) "order 2 1 4\n"
    ∷ log (two (W 5 ∷ R 1 ∷ w ∷ W 6 ∷ w ∷ W 5 ∷ r 1 5 ∷ R 2 ∷ r 2 6 ∷ [])) "order 1 2 4 8\n"
    -- "Row 0 alone: empty order."
    ∷ log (two []) "order\n"
    -- no rows; "a length not a multiple of 8 is 9"; a row 0 of kind 0 is not well formed
    ∷ bytes [] "refused 9\n"
    ∷ bytes (80 ∷ 16 ∷ 0 ∷ 0 ∷ 0 ∷ 0 ∷ 0 ∷ []) "refused 9\n"
    ∷ bytes (0 ∷ 16 ∷ 0 ∷ 0 ∷ 0 ∷ 0 ∷ 0 ∷ 7 ∷ []) "refused 10\n"
    -- document 02, card 10: a sheet, one of a log in which nobody looked, and the judge's refusals
    ∷ sheet (bytes_of (row_of 5 3 7 ∷ W 5 ∷ R 3 ∷ w ∷ r 3 7 ∷ R 1 ∷ r 1 5 ∷ R 3 ∷ W 6 ∷ w ∷ r 3 5 ∷ []))
    "reader 1 reads 1 lag 0\nreader 2 reads 0 lag 0\nreader 3 reads 2 lag 2\nall reads 3 lag 2\n"
    ∷ sheet (bytes_of (row_of 5 1 7 ∷ [])) "reader 1 reads 0 lag 0\nall reads 0 lag 0\n"
    ∷ sheet (bytes_of (two (W 5 ∷ R 1 ∷ r 1 5 ∷ R 2 ∷ r 2 7 ∷ []))) "no order 4\n"
    ∷ sheet (bytes_of (row_of 5 17 7 ∷ [])) "refused 10\n"
    ∷ sheet [] "refused 9\n"
    ∷ sheet (80 ∷ 16 ∷ 0 ∷ 0 ∷ 0 ∷ 0 ∷ 0 ∷ []) "refused 9\n"
    ∷ sheet (80 ∷ 16 ∷ 0 ∷ 0 ∷ 0 ∷ 0 ∷ 0 ∷ 7 ∷ 0 ∷ []) "refused 9\n"
    -- document 02, card 11: "`1 7 9 1 1` gives `wr order`, then `rw order`"
    ∷ drill "1 7 9 1 1\n" "wr order\nrw order\n"
    -- no turn of the writer, and none of the reader
    ∷ drill "1 7 9 0 2\n" "rr order\n"
    ∷ drill "1 7 9 2 0\n" "ww order 1\n"
    -- "Turns after an end are refused 8 and shown.": of the write, and of the read
    ∷ drill "1 7 9 3 0\n" "wwW order 1\n"
    ∷ drill "1 7 9 0 6\n" "rrrrrR order 2\n"
    -- "a+b at most 16"
    ∷ drill "1 7 9 16 0\n" "wwWWWWWWWWWWWWWW order 1\n"
    -- "in dictionary order with the writer first"
    ∷ drill "1 7 9 2 3\n"
    "wwrrr order 1\nwrwrr order 1\nwrrwr order 1\nwrrrw order 1\nrwwrr order 1\nrwrwr order 1\nrwrrw order 1\nrrwwr order 1\nrrwrw order 1\nrrrww order 1\n"
    -- lines of `1 7 9 2 10`: a read that the write overtakes ends with its second attempt, behind nine turns; one that it does not, behind five
    ∷ line "rwwrrrrrrrrr" "rwwrrrrrrrrR order 1 2\n"
    ∷ line "wrrrwrrrrrrr" "wrrrwrrrrrrR order 1 2\n"
    ∷ line "rrrrwwrrrrrr" "rrrrwwrRRRRR order 2 1\n"
    -- two readers; the start reading, written again; "leading zeros allowed"
    ∷ drill "2 7 9 4 1\n" "wwwwr order 1\nwwwrw order 1\nwwrww order 1\nwrwww order 1\nrwwww order 1\n"
    ∷ drill "1 7 7 2 1\n" "wwr order 1\nwrw order 1\nrww order 1\n"
    ∷ drill "001 07 0009 1 02\n" "wrr order\nrwr order\nrrw order\n"
    -- "a bad input line, input after it, or a+b not 1 to 16, gives `bad line 1`"
    ∷ drill "" "bad line 1\n"
    ∷ drill "1 7 9 1 1" "bad line 1\n"
    ∷ drill "1 7 9 1\n" "bad line 1\n"
    ∷ drill "1 7 9 1 1 1\n" "bad line 1\n"
    ∷ drill "1 7  9 1 1\n" "bad line 1\n"
    ∷ drill "1 7 9 1 1 \n" "bad line 1\n"
    ∷ drill "1 7 4294967296 1 1\n" "bad line 1\n"
    ∷ drill "1 7 9 1 1\r\n" "bad line 1\n"
    ∷ drill "1 7 9 1 1\n\n" "bad line 1\n"
    ∷ drill "1 7 9 1 1\n1" "bad line 1\n"
    ∷ drill "1 7 9 0 0\n" "bad line 1\n"
    ∷ drill "1 7 9 9 8\n" "bad line 1\n"
    ∷ drill "0 7 9 4294967295 2\n" "bad line 1\n"
    -- "then n not 1 to 16 `refused 1`, and no more": a bad line comes first
    ∷ drill "0 7 9 1 1\n" "refused 1\n"
    ∷ drill "17 7 9 1 1\n" "refused 1\n"
    ∷ drill "0 7 9 0 0\n" "bad line 1\n"
    -- document 02, card 14: `tickets rows R least L most M`, `counted rows R least L most M`; nothing to do, one write, one read, one of each
    ∷ sizing "1 0 0\n" "tickets rows 3 least 0 most 0\ncounted rows 3 least 0 most 0\n"
    ∷ sizing "1 1 0\n" "tickets rows 3 least 2 most 2\ncounted rows 3 least 1 most 1\n"
    ∷ sizing "1 0 1\n" "tickets rows 3 least 5 most 5\ncounted rows 3 least 1 most 1\n"
    ∷ sizing "1 1 1\n" "tickets rows 5 least 7 most 11\ncounted rows 5 least 2 most 2\n"
    -- every read has a second attempt, at most; and as many as the writes have stores; "leading zeros allowed"
    ∷ sizing "3 2 5\n" "tickets rows 15 least 57 most 87\ncounted rows 15 least 31 most 31\n"
    ∷ sizing "2 1 5\n" "tickets rows 13 least 39 most 49\ncounted rows 13 least 17 most 17\n"
    ∷ sizing "002 01 000005\n" "tickets rows 13 least 39 most 49\ncounted rows 13 least 17 most 17\n"
    -- 16 readers; the most rows that there are: 4,095
    ∷ sizing "16 1000 1000\n" "tickets rows 4001 least 67000 most 86000\ncounted rows 4001 least 47000 most 47000\n"
    ∷ sizing "16 47 2000\n" "tickets rows 4095 least 71504 most 85792\ncounted rows 4095 least 62752 most 62752\n"
    ∷ sizing "1 2000 47\n" "tickets rows 4095 least 4235 most 4423\ncounted rows 4095 least 2047 most 2047\n"
    -- "Question 1 comes first; then larger numbers, then more rows than 4,096"
    ∷ sizing "0 1 1\n" "refused 1\n"
    ∷ sizing "17 1 1\n" "refused 1\n"
    ∷ sizing "17 2001 0\n" "refused 1\n"
    ∷ sizing "0 2000 48\n" "refused 1\n"
    ∷ sizing "1 2001 0\n" "more than 2000\n"
    ∷ sizing "16 0 2001\n" "more than 2000\n"
    ∷ sizing "1 2001 47\n" "more than 2000\n"
    ∷ sizing "16 4294967295 4294967295\n" "more than 2000\n"
    ∷ sizing "1 2000 48\n" "more than 4096 rows\n"
    ∷ sizing "16 1024 1024\n" "more than 4096 rows\n"
    -- a bad line, and input after it: `bad line 1`, which comes first
    ∷ sizing "" "bad line 1\n"
    ∷ sizing "\n" "bad line 1\n"
    ∷ sizing "1 1 1" "bad line 1\n"
    ∷ sizing "1 1\n" "bad line 1\n"
    ∷ sizing "1 1 1 1\n" "bad line 1\n"
    ∷ sizing "1  1 1\n" "bad line 1\n"
    ∷ sizing " 1 1 1\n" "bad line 1\n"
    ∷ sizing "1 1 1 \n" "bad line 1\n"
    ∷ sizing "1 -1 1\n" "bad line 1\n"
    ∷ sizing "1 4294967296 1\n" "bad line 1\n"
    ∷ sizing "1 1 1\r\n" "bad line 1\n"
    ∷ sizing "1 1 1\n\n" "bad line 1\n"
    ∷ sizing "0 1 1\n1" "bad line 1\n"
    ∷ []

pub sessions : map (λ (s : Session). s.got) table ≡ map (λ (s : Session). ascii s.wanted) table
unfolding Cell.pack_cell Cell.unpack_cell Row.pack_row Index.index Index.in_row Answer.cases Answer.begins_to Answer.count_after Fold.up_to Rows.kind_of Rows.within Rows.suits Rows.begins Rows.kind_at Rows.processor_at Rows.zero_at Rows.value_at WellFormed.well_formed WellFormed.head_ok WellFormed.fields WellFormed.open_at WellFormed.alternates WellFormed.row_ok WellFormed.all History.event_at History.end_at Search.first Sweep.place_at Sweep.adds Sweep.floors Sweep.floor Sweep.place Sweep.missing Listing.behind Listing.group Listing.build Listing.listing Linearization.position_in Linearization.last_write Linearization.stands_behind Lag.with_write Lag.begun_before Lag.rank_of Lag.lag_of LagSheet.picked LagSheet.reads_to LagSheet.sum LagSheet.reads_of LagSheet.lags_of LagSheet.over_readers LagSheet.array_of LagSheet.lines_in LagSheet.figures_in lib.Count.ones lib.Count.ones_in Counting.all Counting.count Tickets.with_ticket Tickets.smallest_out Tickets.through Tickets.walk_on Index.other Head.head_ok Rules.state_ok SetUp.set_up_of Register.begin_write_of Register.begin_read_of Register.step_writer Register.step_reader Register.step_of Register.call_of Register.run_of State.writer_ok State.reader_ok Write.ticket_of Write.write_step Read.attempt_step Read.result_step Read.read_step TicketRules.fresh_cells Fields.place_of Fields.before Fields.number_in Fields.all_digits Fields.value_from Fields.longer Fields.fields_of Fields.numbers_in Fields.each_number Fields.all_numbers Fields.one_line_of Script.kind_in Script.call_in Script.call_from Script.calls_from Script.end_from Lines.decimal_in Lines.decimal Lines.line_of Lines.field flat_map Lines.order_line Lines.letter_of Lines.reader_text Lines.reading_text Lines.row_text Lines.row_lines Lines.readers_line Bytes.read_rows Bytes.rows_of Bytes.bytes_of verdict_line from_bytes Sheet.lag_end Sheet.reader_line Sheet.reader_lines Sheet.figures_text Sheet.sheet_text bench_print good_first register_print calls_print refusal_of log_print Schedules.after_writer Schedules.after_reader Drill.turn_letter Drill.turn_letters drill_line Drill.drill_lines drill_print Figured.rows_for Figured.write_words Figured.read_words Figured.second_words Figured.least_words Figured.most_words Figured.size_of Sizing.figures_line Sizing.answer_line Sizing.sizing_text sizing_print
sessions = refl
