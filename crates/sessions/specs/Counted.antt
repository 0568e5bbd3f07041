-- Sessions of the counted register (document 02, card 3). The words that runs leave are the card's, or an outside model's.
use Rattle.std.specs.Prelude.{List, [], ◌∷◌, ◌++◌}
use Rattle.common.specs.declared.calls.Call.TheVariants.{Write as write, Read as read, Step as step}
use Rattle.sessions.specs.Session.{Session, counting, counted_cell, denied, run}
use Rattle.sessions.specs.Lent.{lent, paper, times}

abbrev pub counted_sessions : List Session
counted_sessions =
    -- "reading 32 bits, stamp 32 bits"
    counted_cell (record { value = 7; stamp = 5 }) 0x0000000700000005
    -- n=2, start 7, fresh stamp 5: it "stands in every cell, with the start reading in the writer's cells and 0 elsewhere"; n² cells will do
    ∷ run (counting 5) 2 7 (lent 4) (paper 3) [] []
    (0x0000000700000005 ∷ 0x0000000700000005 ∷ 0x0000000000000005 ∷ 0x0000000000000005 ∷ [])
    (0x5020000000000007 ∷ 55 ∷ 55 ∷ [])
    -- a write of 9 and one sub-step; reader 1 reads 9 at sub-step 3, reader 2, whose own cell from the writer still has 7, reads 9
    ∷ run (counting 5) 2 7 (lent 6) (paper 8) (write 9 ∷ step 0 ∷ read 1 ∷ times 3 1 ++ read 2 ∷ times 3 2)
    (0 ∷ 1 ∷ 0 ∷ 1 ∷ 2 ∷ 3 ∷ 0 ∷ 1 ∷ 2 ∷ 3 ∷ [])
    (0x0000000900000006 ∷ 0x0000000700000005 ∷ 0x0000000900000006 ∷ 0x0000000900000006 ∷ 77 ∷ 77 ∷ [])
    (0x5020000000000007 ∷ 0x1000000000000009 ∷ 0x3010000000000000 ∷ 0x4010000000000009 ∷ 0x3020000000000000 ∷ 0x4020000000000009 ∷ 55 ∷ 55 ∷ [])
    -- and the rest of the write: all four cells
    ∷ run (counting 5) 2 7 (lent 6) (paper 8) (write 9 ∷ step 0 ∷ read 1 ∷ times 3 1 ++ read 2 ∷ times 3 2 ++ step 0 ∷ step 0 ∷ [])
    (0 ∷ 1 ∷ 0 ∷ 1 ∷ 2 ∷ 3 ∷ 0 ∷ 1 ∷ 2 ∷ 3 ∷ 2 ∷ 108 ∷ [])
    (0x0000000900000006 ∷ 0x0000000900000006 ∷ 0x0000000900000006 ∷ 0x0000000900000006 ∷ 77 ∷ 77 ∷ [])
    (0x5020000000000007
    ∷ 0x1000000000000009
    ∷ 0x3010000000000000
    ∷ 0x4010000000000009
    ∷ 0x3020000000000000
    ∷ 0x4020000000000009
    ∷ 0x2000000000000000
    ∷ 55
    ∷ [])
    -- "the writer's if equal": a fresh read gives the start reading, though reader 2's cell has the same stamp
    ∷ run (counting 5) 2 7 (lent 4) (paper 4) (read 1 ∷ times 3 1) (0 ∷ 1 ∷ 2 ∷ 3 ∷ [])
    (0x0000000700000005 ∷ 0x0000000700000005 ∷ 0x0000000700000005 ∷ 0x0000000000000005 ∷ [])
    (0x5020000000000007 ∷ 0x3010000000000000 ∷ 0x4010000000000007 ∷ 55 ∷ [])
    -- "then at the writer": a write whose store comes behind the look at reader 2 is seen
    ∷ run (counting 5) 2 7 (lent 4) (paper 6) (read 1 ∷ step 1 ∷ write 9 ∷ step 0 ∷ times 2 1) (0 ∷ 1 ∷ 0 ∷ 1 ∷ 2 ∷ 3 ∷ [])
    (0x0000000900000006 ∷ 0x0000000700000005 ∷ 0x0000000900000006 ∷ 0x0000000000000005 ∷ [])
    (0x5020000000000007 ∷ 0x3010000000000000 ∷ 0x1000000000000009 ∷ 0x4010000000000009 ∷ 55 ∷ 55 ∷ [])
    -- n=3: "looks at the other readers in rising order": reader 2 has looked at reader 1 when that stores 9, and gives 7
    ∷ run (counting 4) 3 7 (lent 10) (paper 8) (read 2 ∷ step 2 ∷ write 9 ∷ step 0 ∷ read 1 ∷ times 5 1 ++ times 4 2)
    (0 ∷ 1 ∷ 0 ∷ 1 ∷ 0 ∷ 1 ∷ 2 ∷ 3 ∷ 4 ∷ 5 ∷ 2 ∷ 3 ∷ 4 ∷ 5 ∷ [])
    (0x0000000900000005
    ∷ 0x0000000700000004
    ∷ 0x0000000700000004
    ∷ 0x0000000900000005
    ∷ 0x0000000900000005
    ∷ 0x0000000700000004
    ∷ 0x0000000700000004
    ∷ 0x0000000000000004
    ∷ 0x0000000000000004
    ∷ 77
    ∷ [])
    (0x5030000000000007
    ∷ 0x3020000000000000
    ∷ 0x1000000000000009
    ∷ 0x3010000000000000
    ∷ 0x4010000000000009
    ∷ 0x4020000000000007
    ∷ 55
    ∷ 55
    ∷ [])
    -- "rows, and all stores, go by rising reader": reader 2's first store is to reader 1, at place 5, and none to reader 3, at 6, yet; reader
    -- 3's is to reader 1, at 7, and none to reader 2, at 8; the writer's first two are to readers 1 and 2
    ∷ run (counting 4) 3 7 (lent 10) (paper 7) (read 2 ∷ times 4 2 ++ read 3 ∷ times 4 3 ++ write 9 ∷ times 2 0)
    (0 ∷ 1 ∷ 2 ∷ 3 ∷ 4 ∷ 0 ∷ 1 ∷ 2 ∷ 3 ∷ 4 ∷ 0 ∷ 1 ∷ 2 ∷ [])
    (0x0000000900000005
    ∷ 0x0000000900000005
    ∷ 0x0000000700000004
    ∷ 0x0000000000000004
    ∷ 0x0000000000000004
    ∷ 0x0000000700000004
    ∷ 0x0000000000000004
    ∷ 0x0000000700000004
    ∷ 0x0000000000000004
    ∷ 77
    ∷ [])
    (0x5030000000000007 ∷ 0x3020000000000000 ∷ 0x3030000000000000 ∷ 0x1000000000000009 ∷ 55 ∷ 55 ∷ 55 ∷ [])
    -- n=1, fresh stamp 4,294,967,294: W 9 ends at 1, W 8 is 14, and reader 1 goes on
    ∷ run (counting 4294967294) 1 7 (lent 2) (paper 7) (write 9 ∷ step 0 ∷ write 8 ∷ read 1 ∷ step 1 ∷ write 8 ∷ [])
    (0 ∷ 1 ∷ 114 ∷ 0 ∷ 1 ∷ 114 ∷ [])
    (0x00000009FFFFFFFF ∷ 77 ∷ [])
    (0x5010000000000007 ∷ 0x1000000000000009 ∷ 0x2000000000000000 ∷ 0x3010000000000000 ∷ 0x4010000000000009 ∷ 55 ∷ 55 ∷ [])
    -- while the last write is open a begin is 6; behind it, 14
    ∷ run (counting 4294967294) 2 7 (lent 4) (paper 6) (write 9 ∷ write 8 ∷ times 2 0 ++ write 8 ∷ read 2 ∷ times 3 2)
    (0 ∷ 106 ∷ 1 ∷ 2 ∷ 114 ∷ 0 ∷ 1 ∷ 2 ∷ 3 ∷ [])
    (0x00000009FFFFFFFF ∷ 0x00000009FFFFFFFF ∷ 0x00000000FFFFFFFE ∷ 0x00000009FFFFFFFF ∷ [])
    (0x5020000000000007 ∷ 0x1000000000000009 ∷ 0x2000000000000000 ∷ 0x3020000000000000 ∷ 0x4020000000000009 ∷ 55 ∷ [])
    -- 14 comes after 7: a fresh stamp that is the last one, and a log of 3
    ∷ run (counting 4294967295) 1 7 (lent 2) (paper 3) (write 9 ∷ read 1 ∷ write 9 ∷ step 1 ∷ write 9 ∷ []) (114 ∷ 0 ∷ 107 ∷ 1 ∷ 107 ∷ [])
    (0x00000007FFFFFFFF ∷ 77 ∷ [])
    (0x5010000000000007 ∷ 0x3010000000000000 ∷ 0x4010000000000007 ∷ [])
    -- refusals 5 and 8
    ∷ run (counting 5) 2 7 (lent 4) (paper 3) (read 0 ∷ read 3 ∷ step 3 ∷ step 1 ∷ step 0 ∷ []) (105 ∷ 105 ∷ 105 ∷ 108 ∷ 108 ∷ [])
    (0x0000000700000005 ∷ 0x0000000700000005 ∷ 0x0000000000000005 ∷ 0x0000000000000005 ∷ [])
    (0x5020000000000007 ∷ 55 ∷ 55 ∷ [])
    -- set-up: 1, 2 ("questions 2 and 4 take n² cells") and 3, in this order
    ∷ denied (counting 5) 0 7 (lent 3) (paper 2) 1
    ∷ denied (counting 5) 17 7 (lent 3) (paper 2) 1
    ∷ denied (counting 5) 2 7 (lent 3) (paper 2) 2
    ∷ denied (counting 5) 2 7 (lent 4) (paper 2) 3
    ∷ []
