-- Sessions of readers that are retired (document 02, card 1), of both registers. The words that runs leave are the card's, or an outside
-- model's.
use Rattle.std.specs.Prelude.{ℕ, List, [], ◌∷◌, ◌++◌}
use Rattle.common.specs.declared.calls.Call.{Call}
use Rattle.common.specs.declared.calls.Call.TheVariants.{Write as write, Read as read, Step as step, Retire as retire}
use Rattle.sessions.specs.Session.{Session, tickets, counting, run}
use Rattle.sessions.specs.Lent.{lent, paper, times, many}

-- a reader's begin, step and retirement
abbrev calls_of : ℕ → List Call
calls_of p = read p ∷ step p ∷ retire p ∷ []

abbrev pub retired_sessions : List Session
retired_sessions =
    -- n=1: reader 1 is retired when it has announced its first look. Its begin, step and retirement are 13, that of reader 2 and of the
    -- writer 5; a write goes on, and cell 1 is still 00000000FFF00100
    run tickets 1 7 (lent 4) (paper 6) (read 1 ∷ times 2 1 ++ retire 1 ∷ calls_of 1 ++ retire 2 ∷ retire 0 ∷ write 9 ∷ times 2 0)
    (0 ∷ 1 ∷ 2 ∷ 0 ∷ 113 ∷ 113 ∷ 113 ∷ 105 ∷ 105 ∷ 0 ∷ 1 ∷ 2 ∷ [])
    (0x00000009080FFF00 ∷ 0x00000000FFF00100 ∷ 77 ∷ 77 ∷ [])
    (0x5010000000000007 ∷ 0x3010000000000000 ∷ 0x1000000000000009 ∷ 0x2000000000000000 ∷ 55 ∷ 55 ∷ [])
    -- "and stops counting as open in questions 4 and 7": in a log of 4 the row for its end is free again
    ∷ run tickets 1 7 (lent 2) (paper 4) (read 1 ∷ write 9 ∷ retire 1 ∷ write 9 ∷ []) (0 ∷ 107 ∷ 0 ∷ 0 ∷ [])
    (0x00000007001FFF00 ∷ 0x00000000FFFFFF00 ∷ [])
    (0x5010000000000007 ∷ 0x3010000000000000 ∷ 0x1000000000000009 ∷ 55 ∷ [])
    -- and the write's own end takes it; in a full log 13 comes before 7, but not before 5
    ∷ run tickets 1 7 (lent 2) (paper 4) (read 1 ∷ retire 1 ∷ write 9 ∷ times 2 0 ++ write 8 ∷ calls_of 1 ++ retire 2 ∷ [])
    (0 ∷ 0 ∷ 0 ∷ 1 ∷ 2 ∷ 107 ∷ 113 ∷ 113 ∷ 113 ∷ 105 ∷ [])
    (0x00000009080FFF00 ∷ 0x00000000FFFFFF00 ∷ [])
    (0x5010000000000007 ∷ 0x3010000000000000 ∷ 0x1000000000000009 ∷ 0x2000000000000000 ∷ [])
    -- "the tickets in them go on being barred": five writes, (2,0) to (5,4), and round, but 0 and 1 stay announced: (2,5)
    ∷ run tickets 1 7 (lent 2) (paper 13) (read 1 ∷ times 2 1 ++ retire 1 ∷ many 5 (write 9 ∷ times 2 0))
    (0 ∷ 1 ∷ 2 ∷ 0 ∷ many 5 (0 ∷ 1 ∷ 2 ∷ []))
    (0x00000009085FFF00 ∷ 0x00000000FFF00100 ∷ [])
    (0x5010000000000007 ∷ 0x3010000000000000 ∷ many 5 (0x1000000000000009 ∷ 0x2000000000000000 ∷ []) ++ 55 ∷ [])
    -- n=2: one that is idle; its step is 13, another's 8. "right after question 5": no reader 3 is retired
    ∷ run tickets 2 7 (lent 6) (paper 4) (retire 1 ∷ step 1 ∷ read 1 ∷ retire 1 ∷ step 2 ∷ retire 3 ∷ step 3 ∷ read 2 ∷ read 2 ∷ [])
    (0 ∷ 113 ∷ 113 ∷ 113 ∷ 108 ∷ 105 ∷ 105 ∷ 0 ∷ 106 ∷ [])
    (0x00000007001FFF00 ∷ 0x00000007001FFF00 ∷ 0x00000000FFFFFF00 ∷ 0x00000000FFFFFF00 ∷ 0x00000000FFFFFF00 ∷ 0x00000000FFFFFF00 ∷ [])
    (0x5020000000000007 ∷ 0x3020000000000000 ∷ 55 ∷ 55 ∷ [])
    -- n=2, a write of 9 stopped after 3 sub-steps: reader 1 is retired among its stores, with 9 to reader 2 and its announcement to the
    -- writer; reader 2 reads 9 at its own sub-step 7, and the write ends at its 4
    ∷ run tickets 2 7 (lent 6) (paper 9) (write 9 ∷ times 3 0 ++ read 1 ∷ times 6 1 ++ retire 1 ∷ read 2 ∷ times 7 2 ++ step 0 ∷ calls_of 1)
    (0 ∷ 1 ∷ 2 ∷ 3 ∷ 0 ∷ 1 ∷ 2 ∷ 3 ∷ 4 ∷ 5 ∷ 6 ∷ 0 ∷ 0 ∷ 1 ∷ 2 ∷ 3 ∷ 4 ∷ 5 ∷ 6 ∷ 7 ∷ 4 ∷ 113 ∷ 113 ∷ 113 ∷ [])
    (0x00000009080FFF00 ∷ 0x00000009080FFF00 ∷ 0x00000000FFF08000 ∷ 0x00000009080FFF00 ∷ 0x00000000080FFF00 ∷ 0x00000009080FFF00 ∷ [])
    (0x5020000000000007
    ∷ 0x1000000000000009
    ∷ 0x3010000000000000
    ∷ 0x3020000000000000
    ∷ 0x4020000000000009
    ∷ 0x2000000000000000
    ∷ 55
    ∷ 55
    ∷ 55
    ∷ [])
    -- n=1: in its second attempt, with (2,0) announced
    ∷ run tickets 1 7 (lent 2) (paper 6) (read 1 ∷ step 1 ∷ write 9 ∷ times 2 0 ++ times 5 1 ++ retire 1 ∷ write 8 ∷ times 2 0)
    (0 ∷ 1 ∷ 0 ∷ 1 ∷ 2 ∷ 2 ∷ 3 ∷ 4 ∷ 5 ∷ 6 ∷ 0 ∷ 0 ∷ 1 ∷ 2 ∷ [])
    (0x000000080C2FFF00 ∷ 0x00000000FFF08000 ∷ [])
    (0x5010000000000007 ∷ 0x3010000000000000 ∷ 0x1000000000000009 ∷ 0x2000000000000000 ∷ 0x1000000000000008 ∷ 0x2000000000000000 ∷ [])
    -- the counted register, n=2: "The log and retirement are as for the first"; reader 1's cell still has its fresh stamp
    ∷ run (counting 5) 2 7 (lent 4) (paper 8) (read 1 ∷ step 1 ∷ retire 1 ∷ calls_of 1 ++ retire 3 ∷ retire 0 ∷ write 9 ∷ times 2 0 ++ read 2 ∷ times 3 2)
    (0 ∷ 1 ∷ 0 ∷ 113 ∷ 113 ∷ 113 ∷ 105 ∷ 105 ∷ 0 ∷ 1 ∷ 2 ∷ 0 ∷ 1 ∷ 2 ∷ 3 ∷ [])
    (0x0000000900000006 ∷ 0x0000000900000006 ∷ 0x0000000000000005 ∷ 0x0000000900000006 ∷ [])
    (0x5020000000000007 ∷ 0x3010000000000000 ∷ 0x1000000000000009 ∷ 0x2000000000000000 ∷ 0x3020000000000000 ∷ 0x4020000000000009 ∷ 55 ∷ 55 ∷ [])
    -- a log of 4
    ∷ run (counting 5) 1 7 (lent 1) (paper 4) (read 1 ∷ write 9 ∷ retire 1 ∷ write 9 ∷ step 0 ∷ write 8 ∷ []) (0 ∷ 107 ∷ 0 ∷ 0 ∷ 1 ∷ 107 ∷ [])
    (0x0000000900000006 ∷ [])
    (0x5010000000000007 ∷ 0x3010000000000000 ∷ 0x1000000000000009 ∷ 0x2000000000000000 ∷ [])
    -- n=3, a write stopped after its first store: reader 1 is retired when it has stored 9 to reader 2 and not to reader 3; both read 9
    ∷ run (counting 5) 3 7 (lent 10) (paper 9) (write 9 ∷ step 0 ∷ read 1 ∷ times 4 1 ++ retire 1 ∷ read 2 ∷ times 5 2 ++ read 3 ∷ times 5 3)
    (0 ∷ 1 ∷ 0 ∷ 1 ∷ 2 ∷ 3 ∷ 4 ∷ 0 ∷ 0 ∷ 1 ∷ 2 ∷ 3 ∷ 4 ∷ 5 ∷ 0 ∷ 1 ∷ 2 ∷ 3 ∷ 4 ∷ 5 ∷ [])
    (0x0000000900000006
    ∷ 0x0000000700000005
    ∷ 0x0000000700000005
    ∷ 0x0000000900000006
    ∷ 0x0000000000000005
    ∷ 0x0000000900000006
    ∷ 0x0000000900000006
    ∷ 0x0000000900000006
    ∷ 0x0000000900000006
    ∷ 77
    ∷ [])
    (0x5030000000000007
    ∷ 0x1000000000000009
    ∷ 0x3010000000000000
    ∷ 0x3020000000000000
    ∷ 0x4020000000000009
    ∷ 0x3030000000000000
    ∷ 0x4030000000000009
    ∷ 55
    ∷ 55
    ∷ [])
    -- the last stamp used: a write is 14, a retired reader 13
    ∷ run (counting 4294967295) 1 7 (lent 1) (paper 5) (retire 1 ∷ step 1 ∷ write 9 ∷ read 1 ∷ []) (0 ∷ 113 ∷ 114 ∷ 113 ∷ [])
    (0x00000007FFFFFFFF ∷ [])
    (0x5010000000000007 ∷ 55 ∷ 55 ∷ 55 ∷ 55 ∷ [])
    ∷ []
