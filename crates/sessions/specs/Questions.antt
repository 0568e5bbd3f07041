-- "Questions in their order": where two that follow each other are both answered no, the first one's number is given; and their edges. All is
-- told by document 01.
use Rattle.std.specs.Prelude.{ℕ, false, List, [], ◌∷◌, ◌++◌}
use Rattle.words.specs.Row.{pack_row}
use Rattle.common.specs.declared.State.{State}
use Rattle.common.specs.declared.calls.Call.TheVariants.{Write as write, Read as read, Step as step, Retire as retire}
use Rattle.common.specs.SetUp.{fresh_state, no_state}
use Rattle.sessions.specs.Session.{Session, tickets, judged, denied, run, asked}
use Rattle.sessions.specs.Lent.{lent, paper, many}
use Rattle.sessions.specs.Letters.{event, two, W, R, r, places}

-- a fresh state of one reader with a log of so many rows
abbrev with_rows : ℕ → State
with_rows rows = fresh_state false 1 0 rows

-- row 0 alone, of this kind and this number of readers
abbrev row0 : ℕ → ℕ → List ℕ
row0 kind n = pack_row (event kind n 7) ∷ []

abbrev set_ups : List Session
set_ups =
    -- 1 before 2, 2 before 3
    denied tickets 17 7 (lent 3) (paper 3) 1
    ∷ denied tickets 1 7 (lent 1) (paper 2) 2
    -- "1 to 16 readers", "At least n²+n cells", "3 to 4,096 rows": the most of each, and one off
    ∷ run tickets 16 7 (lent 272) (paper 4096) [] []
    (many 16 (0x00000007001FFF00 ∷ []) ++ many 256 (0x00000000FFFFFF00 ∷ []))
    (0x5100000000000007 ∷ many 4095 (55 ∷ []))
    ∷ denied tickets 16 7 (lent 271) (paper 4096) 2
    ∷ denied tickets 2 7 (lent 5) (paper 3) 2
    ∷ denied tickets 16 7 (lent 272) (paper 4097) 3
    ∷ []

abbrev calls : List Session
calls =
    -- 4 before 5, 7 and 8: of the state of a refused set-up
    asked tickets (no_state false) 2 3 (write 9) 104
    ∷ asked tickets (no_state false) 2 3 (read 1) 104
    ∷ asked tickets (no_state false) 2 3 (step 0) 104
    ∷ asked tickets (no_state false) 2 3 (retire 1) 104
    -- "this log as long as recorded, 3 to 4,096", "this table n²+n cells or more"
    ∷ asked tickets (with_rows 2) 2 2 (write 9) 104
    ∷ asked tickets (with_rows 3) 2 3 (write 9) 0
    ∷ asked tickets (with_rows 3) 2 4 (write 9) 104
    ∷ asked tickets (with_rows 3) 1 3 (write 9) 104
    ∷ asked tickets (with_rows 4096) 2 4096 (write 9) 0
    ∷ asked tickets (with_rows 4097) 2 4097 (write 9) 104
    -- 6 before 7, 5 before 7, in a log that is full
    ∷ run tickets 1 7 (lent 2) (paper 3) (write 9 ∷ write 8 ∷ read 1 ∷ read 0 ∷ read 2 ∷ []) (0 ∷ 106 ∷ 107 ∷ 105 ∷ 105 ∷ [])
    (0x00000007001FFF00 ∷ 0x00000000FFFFFF00 ∷ [])
    (0x5010000000000007 ∷ 0x1000000000000009 ∷ 55 ∷ [])
    ∷ run tickets 1 7 (lent 2) (paper 3) (read 1 ∷ read 1 ∷ read 0 ∷ write 9 ∷ step 2 ∷ []) (0 ∷ 106 ∷ 105 ∷ 107 ∷ 105 ∷ [])
    (0x00000007001FFF00 ∷ 0x00000000FFFFFF00 ∷ [])
    (0x5010000000000007 ∷ 0x3010000000000000 ∷ 55 ∷ [])
    -- 5 before 6 and 8: a read by the writer while it writes, and by one past n; their steps
    ∷ run tickets 2 7 (lent 6) (paper 6) (write 9 ∷ read 0 ∷ read 1 ∷ read 3 ∷ step 3 ∷ []) (0 ∷ 105 ∷ 0 ∷ 105 ∷ 105 ∷ [])
    (0x00000007001FFF00 ∷ 0x00000007001FFF00 ∷ 0x00000000FFFFFF00 ∷ 0x00000000FFFFFF00 ∷ 0x00000000FFFFFF00 ∷ 0x00000000FFFFFF00 ∷ [])
    (0x5020000000000007 ∷ 0x1000000000000009 ∷ 0x3010000000000000 ∷ 55 ∷ 55 ∷ 55 ∷ [])
    ∷ []

abbrev verdicts : List Session
verdicts =
    -- 9 before 10, 10 before 11, 11 before 12
    judged (many 4097 (0 ∷ [])) places 9 [] places
    ∷ judged (many 4096 (0 ∷ [])) places 10 [] places
    ∷ judged (two (W 5 ∷ W 6 ∷ [])) [] 10 [] []
    ∷ judged (two (W 5 ∷ R 1 ∷ r 1 5 ∷ R 2 ∷ r 2 7 ∷ [])) (77 ∷ 77 ∷ []) 11 [] (77 ∷ 77 ∷ [])
    -- "row 0 as above with n 1 to 16"
    ∷ judged (row0 5 1) [] 0 (0 ∷ []) []
    ∷ judged (row0 5 16) [] 0 (0 ∷ []) []
    ∷ judged (row0 5 0) [] 10 [] []
    ∷ judged (row0 5 17) [] 10 [] []
    ∷ judged (row0 4 1) [] 10 [] []
    ∷ judged (row0 6 1) [] 10 [] []
    ∷ []

abbrev pub question_sessions : List Session
question_sessions = set_ups ++ calls ++ verdicts
