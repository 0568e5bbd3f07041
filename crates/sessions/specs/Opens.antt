-- The number of open operations, of both registers (document 02, card 5). All is told by the card.
use Rattle.std.specs.Prelude.{ℕ, List, [], ◌∷◌, ◌++◌}
use Rattle.common.specs.declared.calls.Call.{Call}
use Rattle.common.specs.declared.calls.Call.TheVariants.{Write as write, Read as read, Step as step, Retire as retire}
use Rattle.sessions.specs.Session.{Session, Register, tickets, counting, opens, handed}
use Rattle.sessions.specs.Lent.{times}

-- a write and a read by reader 1 are open, of two readers: the number that is handed on, a call, and the answer to it
abbrev two : Register → ℕ → Call → ℕ → Session
two g = handed g 2 16 (write 9 ∷ read 1 ∷ [])

-- reader 1 was retired in the middle of its read
abbrev gone : Register → ℕ → Call → ℕ → Session
gone g = handed g 2 16 (read 1 ∷ step 1 ∷ retire 1 ∷ [])

-- "A state whose number is off is out of range under question 4": off by one and by more, for each call, also where 5 or 6 would come
abbrev off : Register → List Session
off g =
    two g 2 (step 0) 1
    ∷ two g 1 (step 0) 104
    ∷ two g 3 (step 0) 104
    ∷ two g 0 (read 2) 104
    ∷ two g 2 (read 2) 0
    ∷ two g 1 (write 8) 104
    ∷ two g 3 (retire 1) 104
    ∷ two g 255 (retire 9) 104
    -- a fresh state has 0
    ∷ handed g 1 3 [] 0 (write 9) 0
    ∷ handed g 1 3 [] 1 (write 9) 104
    -- a retirement that kept the number would leave 1
    ∷ gone g 0 (write 9) 0
    ∷ gone g 1 (write 9) 104
    ∷ []

abbrev pub opens_sessions : List Session
opens_sessions =
    -- n=2: a write and two reads begin, a third begin is 6; reader 1 is retired in the middle of its read, and then is 13; the write ends
    -- at its sub-step 4; another begins, and reader 2 is retired in the middle of its read
    opens tickets 2 16 (write 9 ∷ read 1 ∷ read 2 ∷ read 2 ∷ step 0 ∷ retire 1 ∷ step 1 ∷ times 3 0 ++ write 8 ∷ retire 2 ∷ [])
    (0 ∷ 1 ∷ 2 ∷ 3 ∷ 3 ∷ 3 ∷ 2 ∷ 2 ∷ 2 ∷ 2 ∷ 1 ∷ 2 ∷ 1 ∷ [])
    -- n=2: a reader that is idle is retired while a write is open
    ∷ opens tickets 2 16 (write 9 ∷ retire 2 ∷ []) (0 ∷ 1 ∷ 1 ∷ [])
    -- n=1: a read ends at its sub-step 5; then its reader is retired, idle, and its begin is 13
    ∷ opens tickets 1 4 (read 1 ∷ times 5 1 ++ retire 1 ∷ read 1 ∷ []) (0 ∷ 1 ∷ 1 ∷ 1 ∷ 1 ∷ 1 ∷ 0 ∷ 0 ∷ 0 ∷ [])
    -- a log of 3: with a write open a read's begin is 7, and behind its end a write's
    ∷ opens tickets 1 3 (write 9 ∷ read 1 ∷ times 2 0 ++ write 8 ∷ []) (0 ∷ 1 ∷ 1 ∷ 1 ∷ 0 ∷ 0 ∷ [])
    -- the counted register, n=2: a write ends at its sub-step 2, reader 1 is retired in the middle of its read, reader 2's ends at 3
    ∷ opens (counting 5) 2 16 (write 9 ∷ times 2 0 ++ read 1 ∷ step 1 ∷ read 2 ∷ retire 1 ∷ times 3 2 ++ write 8 ∷ [])
    (0 ∷ 1 ∷ 1 ∷ 0 ∷ 1 ∷ 1 ∷ 2 ∷ 1 ∷ 1 ∷ 1 ∷ 0 ∷ 1 ∷ [])
    -- a begin that is 14
    ∷ opens (counting 4294967295) 1 16 (write 9 ∷ []) (0 ∷ 0 ∷ [])
    ∷ off tickets ++ off (counting 5)
