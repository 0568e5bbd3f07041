-- Sessions of tickets that walk (document 02, card 2). Tickets and cells are from its sentence, by hand, and an outside model's.
use Rattle.std.specs.Prelude.{ℕ, List, [], ◌∷◌, ◌++◌}
use Rattle.words.specs.Stamp.{none}
use Rattle.common.specs.declared.calls.Call.{Call}
use Rattle.common.specs.declared.calls.Call.TheVariants.{Write as write, Read as read}
use Rattle.sessions.specs.Session.{Session, stamp, tickets, taken, run}
use Rattle.sessions.specs.Lent.{lent, paper, times, many}

-- k whole writes of 9 with one reader: the calls, their answers, and their rows
abbrev writes : ℕ → List Call
writes k = many k (write 9 ∷ times 2 0)

abbrev ends : ℕ → List ℕ
ends k = many k (0 ∷ 1 ∷ 2 ∷ [])

abbrev rows : ℕ → List ℕ
rows k = many k (0x1000000000000009 ∷ 0x2000000000000000 ∷ [])

abbrev pub walk_sessions : List Session
walk_sessions =
    -- n=1, five writes: (2,0), (3,2), (4,3), then (5,4), the last of the names 0 to 3n+2, and round to the bottom: (0,5)
    run tickets 1 7 (lent 4) (paper 12) (writes 5) (ends 5)
    (0x00000009005FFF00 ∷ 0x00000000FFFFFF00 ∷ 77 ∷ 77 ∷ [])
    (0x5010000000000007 ∷ rows 5 ++ 55 ∷ [])
    -- n=2, eight writes: (2,0) to (8,7), where 8 is 3n+2, and round: (0,8)
    ∷ run tickets 2 7 (lent 6) (paper 18) (many 8 (write 9 ∷ times 4 0)) (many 8 (0 ∷ 1 ∷ 2 ∷ 3 ∷ 4 ∷ []))
    (0x00000009008FFF00
    ∷ 0x00000009008FFF00
    ∷ 0x00000000FFFFFF00
    ∷ 0x00000000FFFFFF00
    ∷ 0x00000000FFFFFF00
    ∷ 0x00000000FFFFFF00
    ∷ [])
    (0x5020000000000007 ∷ rows 8 ++ 55 ∷ [])
    -- n=1, reader 1 has announced (0,1), then five writes: (2,0) to (5,4), and round, but 0 and 1 are barred: (2,5)
    ∷ run tickets 1 7 (lent 2) (paper 13) (read 1 ∷ times 2 1 ++ writes 5) (0 ∷ 1 ∷ 2 ∷ ends 5)
    (0x00000009085FFF00 ∷ 0x00000000FFF00100 ∷ [])
    (0x5010000000000007 ∷ 0x3010000000000000 ∷ rows 5 ++ 55 ∷ [])
    -- n=1, two writes, reader 1 announces (3,2), then five writes: (4,3), (5,4), (0,5), (1,0), and on, but 2 and 3 are barred: (4,1)
    ∷ run tickets 1 7 (lent 2) (paper 17) (writes 2 ++ read 1 ∷ times 2 1 ++ writes 5) (ends 2 ++ 0 ∷ 1 ∷ 2 ∷ ends 5)
    (0x00000009101FFF00 ∷ 0x00000000FFF0C200 ∷ [])
    (0x5010000000000007 ∷ rows 2 ++ 0x3010000000000000 ∷ rows 5 ++ 55 ∷ [])
    -- n=2, a state that is handed in: above a cur that is none or past 3n+2 there is no ticket
    ∷ taken 2 none [] 0
    ∷ taken 2 (stamp 9 1) (0 ∷ []) 2
    -- the last of the names, and none above it that is not barred
    ∷ taken 2 (stamp 0 1) (2 ∷ 3 ∷ 4 ∷ 5 ∷ 6 ∷ 7 ∷ []) 8
    ∷ taken 2 (stamp 7 8) [] 0
    ∷ taken 2 (stamp 8 0) (1 ∷ 2 ∷ 4 ∷ 5 ∷ 6 ∷ 7 ∷ []) 3
    -- n=16: 3n+2 is 50
    ∷ taken 16 (stamp 49 48) [] 50
    ∷ taken 16 (stamp 50 49) (0 ∷ []) 1
    ∷ []
