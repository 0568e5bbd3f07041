-- Sessions that tell rising readers from falling ones, the first cell from the last, and none from a stamp. The words that runs leave are an
-- outside model's.
use Rattle.std.specs.Prelude.{List, [], ◌∷◌, ◌++◌}
use Rattle.common.specs.declared.calls.Call.TheVariants.{Write as write, Read as read, Step as step}
use Rattle.sessions.specs.Session.{Session, tickets, run, found}
use Rattle.sessions.specs.Lent.{lent, paper, times, many, sub_steps}

abbrev pub rising_sessions : List Session
rising_sessions =
    -- n=3: "read the other readers' cells to i, in rising order": reader 2 has looked at reader 1 when that stores 9 to it, and gives 7
    run tickets 3 7 (lent 12) (paper 8) (write 9 ∷ times 4 0 ++ read 2 ∷ times 4 2 ++ read 1 ∷ times 9 1 ++ times 5 2)
    (0 ∷ sub_steps 4 ++ 0 ∷ sub_steps 4 ++ 0 ∷ sub_steps 9 ++ 5 ∷ 6 ∷ 7 ∷ 8 ∷ 9 ∷ [])
    (0x00000009080FFF00
    ∷ 0x00000007001FFF00
    ∷ 0x00000007001FFF00
    ∷ 0x00000000080FFF00
    ∷ 0x00000009080FFF00
    ∷ 0x00000009080FFF00
    ∷ 0x00000000001FFF00
    ∷ 0x00000007001FFF00
    ∷ 0x00000007001FFF00
    ∷ 0x00000000FFFFFF00
    ∷ 0x00000000FFFFFF00
    ∷ 0x00000000FFFFFF00
    ∷ [])
    (0x5030000000000007
    ∷ 0x1000000000000009
    ∷ 0x3020000000000000
    ∷ 0x3010000000000000
    ∷ 0x4010000000000009
    ∷ 0x4020000000000007
    ∷ 55
    ∷ 55
    ∷ [])
    -- "to the other readers in rising order the result": reader 2's first store is to reader 1, at place 7, and none to reader 3, at 8, yet
    ∷ run tickets 3 7 (lent 12) (paper 9) (write 9 ∷ times 4 0 ++ read 1 ∷ times 9 1 ++ read 3 ∷ times 9 3 ++ read 2 ∷ times 7 2)
    (0 ∷ sub_steps 4 ++ 0 ∷ sub_steps 9 ++ 0 ∷ sub_steps 9 ++ 0 ∷ sub_steps 7)
    (0x00000009080FFF00
    ∷ 0x00000007001FFF00
    ∷ 0x00000007001FFF00
    ∷ 0x00000000080FFF00
    ∷ 0x00000009080FFF00
    ∷ 0x00000009080FFF00
    ∷ 0x00000000FFF00100
    ∷ 0x00000009080FFF00
    ∷ 0x00000000FFFFFF00
    ∷ 0x00000000080FFF00
    ∷ 0x00000009080FFF00
    ∷ 0x00000009080FFF00
    ∷ [])
    (0x5030000000000007
    ∷ 0x1000000000000009
    ∷ 0x3010000000000000
    ∷ 0x4010000000000009
    ∷ 0x3030000000000000
    ∷ 0x4030000000000009
    ∷ 0x3020000000000000
    ∷ 55
    ∷ 55
    ∷ [])
    -- n=2: "Sub-steps 1..n read the readers' cells to the writer, readers 1..n": the writer has read reader 1's when reader 2 announces (0,1),
    -- which its eighth write therefore passes over: (2,8)
    ∷ run tickets 2 7 (lent 6) (paper 19) (read 2 ∷ step 2 ∷ many 7 (write 9 ∷ times 4 0) ++ write 9 ∷ step 0 ∷ step 2 ∷ times 2 0)
    (0 ∷ 1 ∷ many 7 (0 ∷ sub_steps 4) ++ 0 ∷ 1 ∷ 2 ∷ 2 ∷ 3 ∷ [])
    (0x00000009088FFF00
    ∷ 0x00000009207FFF00
    ∷ 0x00000000FFFFFF00
    ∷ 0x00000000FFFFFF00
    ∷ 0x00000000FFF00100
    ∷ 0x00000000FFFFFF00
    ∷ [])
    (0x5020000000000007
    ∷ 0x3020000000000000
    ∷ many 7 (0x1000000000000009 ∷ 0x2000000000000000 ∷ [])
    ++ 0x1000000000000009 ∷ 55 ∷ 55 ∷ [])
    -- Tables that no list of calls leaves, for a read by reader 1. "the first of the other readers' cells whose prev equals the third look's
    -- cur": of those of readers 2 and 3, both of which have it, the first; and where reader 2's has not, reader 3's
    ∷ found 3
    (0x00000009144FFF00
    ∷ 0
    ∷ 0
    ∷ 0
    ∷ 0
    ∷ 0
    ∷ 0
    ∷ 0x00000001185FFF00
    ∷ 0
    ∷ 0
    ∷ 0x000000021C5FFF00
    ∷ 0
    ∷ [])
    (read 1 ∷ times 9 1) (0 ∷ sub_steps 9)
    (0x00000009144FFF00
    ∷ 0
    ∷ 0
    ∷ 0x00000000185FFF00
    ∷ 0x00000001185FFF00
    ∷ 0x00000001185FFF00
    ∷ 0
    ∷ 0x00000001185FFF00
    ∷ 0
    ∷ 0
    ∷ 0x000000021C5FFF00
    ∷ 0
    ∷ [])
    (0x5030000000000007 ∷ 0x3010000000000000 ∷ 0x4010000000000001 ∷ [])
    ∷ found 3
    (0x00000009144FFF00
    ∷ 0
    ∷ 0
    ∷ 0
    ∷ 0
    ∷ 0
    ∷ 0
    ∷ 0x00000001187FFF00
    ∷ 0
    ∷ 0
    ∷ 0x000000021C5FFF00
    ∷ 0
    ∷ [])
    (read 1 ∷ times 9 1) (0 ∷ sub_steps 9)
    (0x00000009144FFF00
    ∷ 0
    ∷ 0
    ∷ 0x000000001C5FFF00
    ∷ 0x000000021C5FFF00
    ∷ 0x000000021C5FFF00
    ∷ 0
    ∷ 0x00000001187FFF00
    ∷ 0
    ∷ 0
    ∷ 0x000000021C5FFF00
    ∷ 0
    ∷ [])
    (0x5030000000000007 ∷ 0x3010000000000000 ∷ 0x4010000000000002 ∷ [])
    -- "for stamp none, reading 0", and "stamp none is (63,63) only": a result with stamp (63,5), (5,63) and none, and what reader 2 is shown
    ∷ found 2 (0x00000009FC5FFF00 ∷ 0 ∷ 0 ∷ 0 ∷ 0 ∷ 0x00000001083FFF00 ∷ []) (read 1 ∷ times 7 1) (0 ∷ sub_steps 7)
    (0x00000009FC5FFF00 ∷ 0 ∷ 0x00000000FC5FFF00 ∷ 0x00000009FC5FFF00 ∷ 0 ∷ 0x00000001083FFF00 ∷ [])
    (0x5020000000000007 ∷ 0x3010000000000000 ∷ 0x4010000000000009 ∷ [])
    ∷ found 2 (0x0000000917FFFF00 ∷ 0 ∷ 0 ∷ 0 ∷ 0 ∷ 0x00000001083FFF00 ∷ []) (read 1 ∷ times 7 1) (0 ∷ sub_steps 7)
    (0x0000000917FFFF00 ∷ 0 ∷ 0x0000000017FFFF00 ∷ 0x0000000917FFFF00 ∷ 0 ∷ 0x00000001083FFF00 ∷ [])
    (0x5020000000000007 ∷ 0x3010000000000000 ∷ 0x4010000000000009 ∷ [])
    ∷ found 2 (0x00000009FFFFFF00 ∷ 0 ∷ 0 ∷ 0 ∷ 0 ∷ 0x00000001083FFF00 ∷ []) (read 1 ∷ times 7 1) (0 ∷ sub_steps 7)
    (0x00000009FFFFFF00 ∷ 0 ∷ 0x00000000FFFFFF00 ∷ 0x00000000FFFFFF00 ∷ 0 ∷ 0x00000001083FFF00 ∷ [])
    (0x5020000000000007 ∷ 0x3010000000000000 ∷ 0x4010000000000009 ∷ [])
    ∷ []
