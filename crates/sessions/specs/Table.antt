-- The sessions of document 01, in its order, and a few more. The words that runs leave are document 01's, or an outside model's.
use Rattle.std.specs.Prelude.{ℕ, true, false, List, [], ◌∷◌, ◌++◌}
use Rattle.words.specs.Stamp.{none}
use Rattle.common.specs.declared.calls.Call.TheVariants.{Write as write, Read as read, Step as step}
use Rattle.sessions.specs.Session.{Session, stamp, tickets, cell, row, judged, tried, denied, run}
use Rattle.sessions.specs.Lent.{lent, paper, times}
use Rattle.sessions.specs.Letters.{shows, announces, event, two, W, w, R, r, places}
use Rattle.sessions.specs.Rising.{rising_sessions}
use Rattle.sessions.specs.Questions.{question_sessions}
use Rattle.sessions.specs.Bytes.{bytes_sessions}
use Rattle.sessions.specs.Walk.{walk_sessions}
use Rattle.sessions.specs.Retired.{retired_sessions}
use Rattle.sessions.specs.Counted.{counted_sessions}
use Rattle.sessions.specs.Opens.{opens_sessions}

-- Three logs for report CS-R8704.
-- The first read stands for the write of 6, the second for that of 5.
abbrev regular_but_inverted : List ℕ
regular_but_inverted = two (W 5 ∷ w ∷ W 6 ∷ R 1 ∷ r 1 6 ∷ R 2 ∷ r 2 5 ∷ [])

-- Two writes are of 5; only the second comes behind the write of 6, which has been read before.
abbrev second_of_two : List ℕ
second_of_two = two (W 5 ∷ w ∷ W 6 ∷ R 2 ∷ r 2 6 ∷ R 1 ∷ w ∷ W 5 ∷ r 1 5 ∷ [])

-- By one choice of writes it is regular and inverts two reads, by another it inverts none and is not regular.
abbrev pub two_choices : List ℕ
two_choices = two (W 5 ∷ w ∷ W 7 ∷ R 1 ∷ r 1 7 ∷ R 1 ∷ r 1 5 ∷ [])

abbrev pub table : List Session
table =
    -- "n=1, start 7: cell 0 is 00000007001FFF00, cell 1 is 00000000FFFFFF00"
    cell (shows 7 (stamp 0 1)) 0x00000007001FFF00
    ∷ cell (shows 0 none) 0x00000000FFFFFF00
    ∷ run tickets 1 7 (lent 4) (paper 3) [] [] (0x00000007001FFF00 ∷ 0x00000000FFFFFF00 ∷ 77 ∷ 77 ∷ []) (0x5010000000000007 ∷ 55 ∷ 55 ∷ [])
    -- "The session of three writes now gives stamps (2,0), (3,2), (4,3)." (document 02, card 2)
    ∷ run tickets 1 7 (lent 4) (paper 8) (write 9 ∷ times 2 0) (0 ∷ 1 ∷ 2 ∷ [])
    (0x00000009080FFF00 ∷ 0x00000000FFFFFF00 ∷ 77 ∷ 77 ∷ [])
    (0x5010000000000007 ∷ 0x1000000000000009 ∷ 0x2000000000000000 ∷ 55 ∷ 55 ∷ 55 ∷ 55 ∷ 55 ∷ [])
    ∷ run tickets 1 7 (lent 4) (paper 8) (write 9 ∷ times 2 0 ++ write 8 ∷ times 2 0) (0 ∷ 1 ∷ 2 ∷ 0 ∷ 1 ∷ 2 ∷ [])
    (0x000000080C2FFF00 ∷ 0x00000000FFFFFF00 ∷ 77 ∷ 77 ∷ [])
    (0x5010000000000007 ∷ 0x1000000000000009 ∷ 0x2000000000000000 ∷ 0x1000000000000008 ∷ 0x2000000000000000 ∷ 55 ∷ 55 ∷ 55 ∷ [])
    ∷ run tickets 1 7 (lent 4) (paper 8) (write 9 ∷ times 2 0 ++ write 8 ∷ times 2 0 ++ write 7 ∷ times 2 0)
    (0 ∷ 1 ∷ 2 ∷ 0 ∷ 1 ∷ 2 ∷ 0 ∷ 1 ∷ 2 ∷ [])
    (0x00000007103FFF00 ∷ 0x00000000FFFFFF00 ∷ 77 ∷ 77 ∷ [])
    (0x5010000000000007
    ∷ 0x1000000000000009
    ∷ 0x2000000000000000
    ∷ 0x1000000000000008
    ∷ 0x2000000000000000
    ∷ 0x1000000000000007
    ∷ 0x2000000000000000
    ∷ 55
    ∷ [])
    -- "After the first, of 9: cell 0 is 00000009080FFF00."
    ∷ cell (shows 9 (stamp 2 0)) 0x00000009080FFF00
    -- "First two sub-steps of a fresh read, n=1: cell 1 is 00000000FFF00100; after all 5, 00000000001FFF00."
    ∷ cell (announces none (stamp 0 1)) 0x00000000FFF00100
    ∷ cell (shows 0 (stamp 0 1)) 0x00000000001FFF00
    ∷ run tickets 1 7 (lent 4) (paper 4) (read 1 ∷ times 2 1) (0 ∷ 1 ∷ 2 ∷ [])
    (0x00000007001FFF00 ∷ 0x00000000FFF00100 ∷ 77 ∷ 77 ∷ [])
    (0x5010000000000007 ∷ 0x3010000000000000 ∷ 55 ∷ 55 ∷ [])
    ∷ run tickets 1 7 (lent 4) (paper 4) (read 1 ∷ times 5 1) (0 ∷ 1 ∷ 2 ∷ 3 ∷ 4 ∷ 5 ∷ [])
    (0x00000007001FFF00 ∷ 0x00000000001FFF00 ∷ 77 ∷ 77 ∷ [])
    (0x5010000000000007 ∷ 0x3010000000000000 ∷ 0x4010000000000007 ∷ 55 ∷ [])
    -- "n=1: one read sub-step, a whole write of 9, the rest: 9 at sub-step 9."
    ∷ run tickets 1 7 (lent 4) (paper 6) (read 1 ∷ step 1 ∷ write 9 ∷ times 2 0 ++ times 8 1)
    (0 ∷ 1 ∷ 0 ∷ 1 ∷ 2 ∷ 2 ∷ 3 ∷ 4 ∷ 5 ∷ 6 ∷ 7 ∷ 8 ∷ 9 ∷ [])
    (0x00000009080FFF00 ∷ 0x00000000080FFF00 ∷ 77 ∷ 77 ∷ [])
    (0x5010000000000007 ∷ 0x3010000000000000 ∷ 0x1000000000000009 ∷ 0x2000000000000000 ∷ 0x4010000000000009 ∷ 55 ∷ [])
    -- "n=2: write of 9 stopped after 3 sub-steps, reader 1 reads 9, then reader 2 reads 9."
    ∷ run tickets 2 7 (lent 8) (paper 7) (write 9 ∷ times 3 0 ++ read 1 ∷ times 7 1 ++ read 2 ∷ times 7 2)
    (0 ∷ 1 ∷ 2 ∷ 3 ∷ 0 ∷ 1 ∷ 2 ∷ 3 ∷ 4 ∷ 5 ∷ 6 ∷ 7 ∷ 0 ∷ 1 ∷ 2 ∷ 3 ∷ 4 ∷ 5 ∷ 6 ∷ 7 ∷ [])
    (0x00000009080FFF00
    ∷ 0x00000007001FFF00
    ∷ 0x00000000080FFF00
    ∷ 0x00000009080FFF00
    ∷ 0x00000000080FFF00
    ∷ 0x00000009080FFF00
    ∷ 77
    ∷ 77
    ∷ [])
    (0x5020000000000007
    ∷ 0x1000000000000009
    ∷ 0x3010000000000000
    ∷ 0x4010000000000009
    ∷ 0x3020000000000000
    ∷ 0x4020000000000009
    ∷ 55
    ∷ [])
    -- n=3, the same with a write stopped after 4: readers 1 and 3 read 9, reader 2 has announced its first look
    ∷ run tickets 3 7 (lent 14) (paper 9) (write 9 ∷ times 4 0 ++ read 1 ∷ times 9 1 ++ read 3 ∷ times 9 3 ++ read 2 ∷ times 3 2)
    (0 ∷ 1 ∷ 2 ∷ 3 ∷ 4 ∷ 0 ∷ 1 ∷ 2 ∷ 3 ∷ 4 ∷ 5 ∷ 6 ∷ 7 ∷ 8 ∷ 9 ∷ 0 ∷ 1 ∷ 2 ∷ 3 ∷ 4 ∷ 5 ∷ 6 ∷ 7 ∷ 8 ∷ 9 ∷ 0 ∷ 1 ∷ 2 ∷ 3 ∷ [])
    (0x00000009080FFF00
    ∷ 0x00000007001FFF00
    ∷ 0x00000007001FFF00
    ∷ 0x00000000080FFF00
    ∷ 0x00000009080FFF00
    ∷ 0x00000009080FFF00
    ∷ 0x00000000FFF00100
    ∷ 0x00000000FFFFFF00
    ∷ 0x00000000FFFFFF00
    ∷ 0x00000000080FFF00
    ∷ 0x00000009080FFF00
    ∷ 0x00000009080FFF00
    ∷ 77
    ∷ 77
    ∷ [])
    (0x5030000000000007
    ∷ 0x1000000000000009
    ∷ 0x3010000000000000
    ∷ 0x4010000000000009
    ∷ 0x3030000000000000
    ∷ 0x4030000000000009
    ∷ 0x3020000000000000
    ∷ 55
    ∷ 55
    ∷ [])
    -- n=2: a whole write within each attempt, so that the read gives its second first look's 8, and shows none
    ∷ run tickets 2 7 (lent 8) (paper 8) (read 1 ∷ step 1 ∷ write 8 ∷ times 4 0 ++ times 5 1 ++ write 9 ∷ times 4 0 ++ times 6 1)
    (0 ∷ 1 ∷ 0 ∷ 1 ∷ 2 ∷ 3 ∷ 4 ∷ 2 ∷ 3 ∷ 4 ∷ 5 ∷ 6 ∷ 0 ∷ 1 ∷ 2 ∷ 3 ∷ 4 ∷ 7 ∷ 8 ∷ 9 ∷ 10 ∷ 11 ∷ 12 ∷ [])
    (0x000000090C2FFF00
    ∷ 0x000000090C2FFF00
    ∷ 0x00000000FFFFFF00
    ∷ 0x00000000FFFFFF00
    ∷ 0x00000000FFFFFF00
    ∷ 0x00000000FFFFFF00
    ∷ 77
    ∷ 77
    ∷ [])
    (0x5020000000000007
    ∷ 0x3010000000000000
    ∷ 0x1000000000000008
    ∷ 0x2000000000000000
    ∷ 0x1000000000000009
    ∷ 0x2000000000000000
    ∷ 0x4010000000000008
    ∷ 55
    ∷ [])
    -- "Rows: 1000000000000009 (W 9), 4010000000000009 (reader 1 ends, 9)."
    ∷ row (event 1 0 9) 0x1000000000000009
    ∷ row (event 4 1 9) 0x4010000000000009
    -- "Start 7; W 5, R 1, r 1 5, R 2, r 2 7: refused 12 with row 4."
    ∷ judged (two (W 5 ∷ R 1 ∷ r 1 5 ∷ R 2 ∷ r 2 7 ∷ [])) places 12 (4 ∷ []) places
    -- "W 5, R 2, r 2 7, R 1, r 1 5: order 2 1 4."
    ∷ judged (two (W 5 ∷ R 2 ∷ r 2 7 ∷ R 1 ∷ r 1 5 ∷ [])) places 0 (3 ∷ []) (2 ∷ 1 ∷ 4 ∷ 77 ∷ 77 ∷ [])
    -- "W 5, R 1, w, W 6, w, W 5, r 1 5, R 2, r 2 6: order 1 2 4 8."
    ∷ judged (two (W 5 ∷ R 1 ∷ w ∷ W 6 ∷ w ∷ W 5 ∷ r 1 5 ∷ R 2 ∷ r 2 6 ∷ [])) places 0 (4 ∷ []) (1 ∷ 2 ∷ 4 ∷ 8 ∷ 77 ∷ [])
    -- "Reads behind one write shall go by end row and no longer by begin row." (document 02, card 6): behind the start, and behind a write
    ∷ judged (two (R 1 ∷ R 2 ∷ r 2 7 ∷ r 1 7 ∷ W 5 ∷ R 1 ∷ R 2 ∷ r 2 5 ∷ r 1 5 ∷ [])) places 0 (5 ∷ []) (2 ∷ 1 ∷ 5 ∷ 7 ∷ 6 ∷ [])
    -- "regular and no two reads are inverted against their writes" (document 02, card 9): a log that is regular but inverted,
    ∷ tried regular_but_inverted ((4, 3) ∷ (6, 1) ∷ []) true false
    ∷ judged regular_but_inverted places 12 (6 ∷ []) places
    -- one where only the second of two equal readings will do,
    ∷ tried second_of_two ((4, 3) ∷ (6, 1) ∷ []) true false
    ∷ tried second_of_two ((4, 3) ∷ (6, 8) ∷ []) true true
    ∷ judged second_of_two places 0 (5 ∷ []) (1 ∷ 3 ∷ 4 ∷ 8 ∷ 6 ∷ [])
    -- and one where no choice of writes will do for both
    ∷ tried two_choices ((4, 3) ∷ (6, 1) ∷ []) true false
    ∷ tried two_choices ((4, 0) ∷ (6, 1) ∷ []) false true
    ∷ judged two_choices places 12 (6 ∷ []) places
    -- "row kind 6, read ends" (document 02, card 13): reader 1 with the band 5 to 6, by its word
    ∷ row (event 6 1 0x00050006) 0x6010000000050006
    -- "Such a read may stand behind any write, or the start, whose reading lies within both, ends included.": 5 in 5 to 6, and 6 in 4 to 6
    ∷ judged (two (R 1 ∷ W 5 ∷ w ∷ W 6 ∷ w ∷ 0x6010000000050006 ∷ R 2 ∷ 0x6020000000040006 ∷ [])) places 0 (4 ∷ []) (2 ∷ 1 ∷ 4 ∷ 7 ∷ 77 ∷ [])
    -- the start's 7 in 7 to 7, but neither in 8 to 9 nor in 5 to 6
    ∷ judged (two (R 1 ∷ 0x6010000000070007 ∷ [])) places 0 (1 ∷ []) (1 ∷ 77 ∷ 77 ∷ 77 ∷ 77 ∷ [])
    ∷ judged (two (R 1 ∷ 0x6010000000080009 ∷ [])) places 12 (1 ∷ []) places
    ∷ judged (two (R 1 ∷ 0x6010000000050006 ∷ [])) places 12 (1 ∷ []) places
    -- a reading of 65,536 and more lies in no band: 00050006 not in 5 to 6, 00010005 not in 0 to 65,535
    ∷ judged (two (W 0x00050006 ∷ w ∷ R 1 ∷ 0x6010000000050006 ∷ [])) places 12 (3 ∷ []) places
    ∷ judged (two (W 0x00010005 ∷ w ∷ R 1 ∷ 0x601000000000FFFF ∷ [])) places 12 (3 ∷ []) places
    -- one reader's reads, with a result and with bands: the last could only be the start's, which is older than what was read before
    ∷ judged (two (R 1 ∷ r 1 7 ∷ W 5 ∷ R 1 ∷ 0x6010000000040005 ∷ R 1 ∷ 0x6010000000060008 ∷ [])) places 12 (6 ∷ []) places
    -- report CS-R8704, with two writes in a read's band: by the one the reads are inverted, by the other not
    ∷ tried (two (W 5 ∷ w ∷ W 6 ∷ R 1 ∷ r 1 6 ∷ R 2 ∷ 0x6020000000050006 ∷ [])) ((4, 3) ∷ (6, 1) ∷ []) true false
    ∷ tried (two (W 5 ∷ w ∷ W 6 ∷ R 1 ∷ r 1 6 ∷ R 2 ∷ 0x6020000000050006 ∷ [])) ((4, 3) ∷ (6, 3) ∷ []) true true
    -- "Lowest above highest is malformed, question 10."; and so is a band where no read is open, and one by the writer
    ∷ judged (two (R 1 ∷ 0x6010000000080007 ∷ [])) places 10 [] places
    ∷ judged (two (R 1 ∷ 0x6020000000050008 ∷ [])) places 10 [] places
    ∷ judged (two (W 5 ∷ 0x6000000000050008 ∷ [])) places 10 [] places
    -- "Row 0 alone: empty order.", and the other refusals: no rows, two begins of one processor, a place short
    ∷ judged (two []) places 0 (0 ∷ []) places
    ∷ judged [] places 9 [] places
    ∷ judged (two (W 5 ∷ W 6 ∷ [])) places 10 [] places
    ∷ judged (two (W 5 ∷ R 1 ∷ [])) (77 ∷ []) 11 [] (77 ∷ [])
    -- "0 and 17 readers: 1. Log of 2: 3.", and a cell short
    ∷ denied tickets 0 7 (lent 4) (paper 3) 1
    ∷ denied tickets 17 7 (lent 4) (paper 3) 1
    ∷ denied tickets 1 7 (lent 1) (paper 3) 2
    ∷ denied tickets 1 7 (lent 4) (paper 2) 3
    -- "Log of 3: one operation fits, the next begin gives 7.", also while the one is open
    ∷ run tickets 1 7 (lent 4) (paper 3) (read 1 ∷ write 9 ∷ times 5 1 ++ write 9 ∷ []) (0 ∷ 107 ∷ 1 ∷ 2 ∷ 3 ∷ 4 ∷ 5 ∷ 107 ∷ [])
    (0x00000007001FFF00 ∷ 0x00000000001FFF00 ∷ 77 ∷ 77 ∷ [])
    (0x5010000000000007 ∷ 0x3010000000000000 ∷ 0x4010000000000007 ∷ [])
    -- refusals 5, 8 and 6: no such reader or processor, a sub-step of an idle one, a begin of a busy one
    ∷ run tickets 1 7 (lent 4) (paper 5) (read 0 ∷ read 2 ∷ step 2 ∷ step 1 ∷ write 9 ∷ write 8 ∷ times 3 0)
    (105 ∷ 105 ∷ 105 ∷ 108 ∷ 0 ∷ 106 ∷ 1 ∷ 2 ∷ 108 ∷ [])
    (0x00000009080FFF00 ∷ 0x00000000FFFFFF00 ∷ 77 ∷ 77 ∷ [])
    (0x5010000000000007 ∷ 0x1000000000000009 ∷ 0x2000000000000000 ∷ 55 ∷ 55 ∷ [])
    -- more of document 01: rising readers, the order of the questions and their edges, logs as bytes
    ∷ rising_sessions ++ question_sessions ++ bytes_sessions
    -- of document 02: tickets that walk (card 2), the counted register (card 3), retired readers (card 1), and open operations (card 5)
    ++ walk_sessions ++ counted_sessions ++ retired_sessions ++ opens_sessions
