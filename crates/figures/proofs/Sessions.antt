-- What is counted in lists of calls, and figures, by computation. What is to come out is document 01's, document 02's, or an outside model's.
use Prim.Native.Nat.{ℕ}
use mathlib.Core.Path.{◌≡◌, refl}
use mathlib.Core.Bool.{Bool, true, false}
use mathlib.Core.List.{List, [], ◌∷◌, map, ◌++◌}
use lib.ListN.{replicate}
use Rattle.words.specs.Cell
use Rattle.words.specs.Row
use Rattle.words.specs.Index
use Rattle.words.specs.Update
use Rattle.words.specs.Counting
use Rattle.common.specs.declared.calls.Call.{Call}
use Rattle.common.specs.declared.calls.Call.TheVariants.{Write as write, Read as read, Step as step}
use Rattle.common.specs.Book
use Rattle.common.specs.Book.{Telling, open_count}
use Rattle.protocol.specs.Reference as Tickets
use Rattle.counted.specs.Cell as CountedCell
use Rattle.counted.specs.Table as CountedTable
use Rattle.counted.specs.Reference as Counted
use Rattle.figures.specs.Sizing.{rows_for, write_words, read_words, second_words, least_words, most_words, size_of, sizing_reply}
use Rattle.figures.specs.Counts.{tally, writes_in, reads_in, words_in}
use Rattle.figures.specs.Meaning.{book_of, number_next}

-- numbers, and what they are to be
pub record Session : Type 0 where
  pub got : List ℕ
  pub wanted : List ℕ

-- Behind a list of calls: writes and reads begun, words moved, open operations, and the number of the answer to a begin of a write.
abbrev behind : {Stamp Cell : Type 0} → Telling Stamp Cell → ℕ → ℕ → List Call → List ℕ → Session
behind B n len cs wanted =
    let k = book_of B n 7 5 len cs in
    record { got = writes_in cs k.answers ∷ reads_in cs k.answers ∷ words_in cs k.answers ∷ open_count n k.model ∷ number_next B n 7 5 len cs (write 9) ∷ []; wanted = wanted }

-- the answer's number and values
abbrev sized : Bool → ℕ → ℕ → ℕ → List ℕ → Session
sized counted n writes reads wanted = let r = sizing_reply (size_of counted n writes reads) in record { got = r.number ∷ r.values; wanted = wanted }

abbrev steps : ℕ → ℕ → List Call
steps k p = replicate k (step p)

abbrev table : List Session
table =
    -- "A write ends at its sub-step 2n. A read ends at 2n+3": words 2 and 5, in 5 rows; the next begin is refused 7
    behind Tickets.book 1 5 (write 9 ∷ steps 2 0 ++ (read 1 ∷ steps 5 1)) (1 ∷ 1 ∷ 7 ∷ 0 ∷ 7 ∷ [])
    -- with 6 rows it is, too, and not with 7
    ∷ behind Tickets.book 1 6 (write 9 ∷ steps 2 0 ++ (read 1 ∷ steps 5 1)) (1 ∷ 1 ∷ 7 ∷ 0 ∷ 7 ∷ [])
    ∷ behind Tickets.book 1 7 (write 9 ∷ steps 2 0 ++ (read 1 ∷ steps 5 1)) (1 ∷ 1 ∷ 7 ∷ 0 ∷ 0 ∷ [])
    -- "one read sub-step, a whole write of 9, the rest: 9 at sub-step 9"
    ∷ behind Tickets.book 1 7 (read 1 ∷ step 1 ∷ write 9 ∷ steps 2 0 ++ steps 8 1) (1 ∷ 1 ∷ 11 ∷ 0 ∷ 0 ∷ [])
    -- calls that are refused begin nothing and move no word: 5, 6, 8, and 7
    ∷ behind Tickets.book 1 4 (read 2 ∷ read 1 ∷ read 1 ∷ step 0 ∷ step 1 ∷ write 9 ∷ []) (0 ∷ 1 ∷ 1 ∷ 1 ∷ 7 ∷ [])
    -- the counted register: a write of n words, a read of 2n−1
    ∷ behind Counted.book 2 5 (write 9 ∷ steps 2 0 ++ (read 2 ∷ steps 3 2)) (1 ∷ 1 ∷ 5 ∷ 0 ∷ 7 ∷ [])
    ∷ behind Counted.book 2 7 (read 1 ∷ step 1 ∷ write 9 ∷ steps 2 0 ++ (read 2 ∷ steps 2 2 ++ steps 2 1)) (1 ∷ 2 ∷ 7 ∷ 1 ∷ 7 ∷ [])
    -- nothing to do; one operation; a read that no write can disturb, and one that a write does
    ∷ sized false 1 0 0 (0 ∷ 3 ∷ 0 ∷ 0 ∷ [])
    ∷ sized false 16 1 0 (0 ∷ 3 ∷ 32 ∷ 32 ∷ [])
    ∷ sized false 1 0 1 (0 ∷ 3 ∷ 5 ∷ 5 ∷ [])
    ∷ sized false 1 1 1 (0 ∷ 5 ∷ 7 ∷ 11 ∷ [])
    ∷ sized true 1 1 1 (0 ∷ 5 ∷ 2 ∷ 2 ∷ [])
    -- a write of two stores disturbs two of three reads
    ∷ sized false 2 1 3 (0 ∷ 9 ∷ 25 ∷ 35 ∷ [])
    ∷ sized true 2 1 3 (0 ∷ 9 ∷ 11 ∷ 11 ∷ [])
    -- "Question 1 comes first; then larger numbers, then more rows than 4,096"
    ∷ sized false 0 2001 2001 (1 ∷ [])
    ∷ sized true 17 1 1 (1 ∷ [])
    ∷ sized true 16 2001 2000 (0 ∷ 2000 ∷ [])
    ∷ sized false 1 0 2001 (0 ∷ 2000 ∷ [])
    ∷ sized false 1 2000 48 (0 ∷ 4096 ∷ [])
    ∷ sized true 16 47 2000 (0 ∷ 4095 ∷ 62752 ∷ 62752 ∷ [])
    ∷ sized false 16 2000 47 (0 ∷ 4095 ∷ 65645 ∷ 66538 ∷ [])
    ∷ []

pub sessions : map (λ (s : Session). s.got) table ≡ map (λ (s : Session). s.wanted) table
unfolding tally rows_for write_words read_words second_words least_words most_words size_of Cell.pack_cell Cell.unpack_cell Row.pack_row Index.index Index.in_row Index.other Update.upd native.Mathlib.Decide.ℕ_discrete Counting.count Book.begins Book.told Book.kept Tickets.is_in Tickets.first_free Tickets.new_ticket Tickets.named_tickets Tickets.without_none Tickets.excluded_tickets Tickets.write_turn Tickets.first_with Tickets.result_of Tickets.attempt_turn Tickets.result_turn Tickets.read_turn Tickets.fresh_table CountedCell.pack_cell CountedCell.unpack_cell CountedTable.row_start CountedTable.in_row Counted.top_of Counted.first_with Counted.result_of Counted.write_turn Counted.read_turn Counted.fresh_table
sessions = refl
