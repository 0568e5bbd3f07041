-- Logs as bytes: "eight a row, most significant first, no order buffer, and gives 0 or the number; a length not a multiple of 8 is 9".
use Rattle.std.specs.Prelude.{ℕ, List, [], ◌∷◌, ◌++◌}
use Rattle.sessions.specs.Session.{Session, judged_bytes}
use Rattle.sessions.specs.Lent.{many}

-- 5010000000000007: row 0 of one reader with start reading 7
abbrev start : List ℕ
start = 0x50 ∷ 0x10 ∷ 0 ∷ 0 ∷ 0 ∷ 0 ∷ 0 ∷ 7 ∷ []

-- 3010000000000000 and 40100000000000vv: reader 1 begins, and ends with v
abbrev reads : ℕ → List ℕ
reads v = 0x30 ∷ 0x10 ∷ 0 ∷ 0 ∷ 0 ∷ 0 ∷ 0 ∷ 0 ∷ 0x40 ∷ 0x10 ∷ 0 ∷ 0 ∷ 0 ∷ 0 ∷ 0 ∷ v ∷ []

abbrev pub bytes_sessions : List Session
bytes_sessions =
    -- "a length not a multiple of 8 is 9", and so are no rows and 4,097
    judged_bytes [] 9
    ∷ judged_bytes (0x50 ∷ 0x10 ∷ 0 ∷ 0 ∷ 0 ∷ 0 ∷ 0 ∷ []) 9
    ∷ judged_bytes start 0
    ∷ judged_bytes (start ++ 0 ∷ []) 9
    ∷ judged_bytes (many 4097 (many 8 (0 ∷ []))) 9
    ∷ judged_bytes (many 4096 (many 8 (0 ∷ []))) 10
    -- "most significant first"
    ∷ judged_bytes (7 ∷ 0 ∷ 0 ∷ 0 ∷ 0 ∷ 0 ∷ 0x10 ∷ 0x50 ∷ []) 10
    -- 10, 12 and 0 of two and three rows
    ∷ judged_bytes (start ++ start) 10
    ∷ judged_bytes (start ++ reads 8) 12
    ∷ judged_bytes (start ++ reads 7) 0
    -- 9 before 10, and 10 before 12: a byte more; and an end more
    ∷ judged_bytes (start ++ start ++ 0 ∷ []) 9
    ∷ judged_bytes (start ++ reads 8 ++ 0x40 ∷ 0x10 ∷ 0 ∷ 0 ∷ 0 ∷ 0 ∷ 0 ∷ 8 ∷ []) 10
    ∷ []
