-- The calls of a list.
use Rattle.std.specs.Prelude.{ℕ, ◌^◌, ◌<◌, Bool, true, false, List, [], ◌∷◌}
-- "A list has any number of begins of a write, begins of a read and sub-steps, in any order, with any reading and any processor
-- number." (02) "Demand 3's lists hold retirements too"
pub use Rattle.common.specs.declared.calls.Call.{Call}
pub use Rattle.common.specs.declared.calls.Call.TheVariants.{Write as write, Read as read, Step as step, Retire as retire}

-- a begin of a write; of a read; a retirement
abbrev pub is_write : Call → Bool
is_write (write v) = true
is_write (read p) = false
is_write (step p) = false
is_write (retire p) = false

abbrev pub is_read : Call → Bool
is_read (write v) = false
is_read (read p) = true
is_read (step p) = false
is_read (retire p) = false

abbrev pub is_retirement : Call → Bool
is_retirement (write v) = false
is_retirement (read p) = false
is_retirement (step p) = false
is_retirement (retire p) = true

-- (02) a reader's own calls: "its begin, step or retirement"
pub data CallBy (p : ℕ) : Call → Type 0 where
  by_begin : CallBy p (read p)
  by_step : CallBy p (step p)
  by_retirement : CallBy p (retire p)

-- "any reading": a 32-bit number
abbrev pub LowCall : Call → Type 0
LowCall (write v) = v < 2 ^ 32
LowCall (read p) = Unit {0}
LowCall (step p) = Unit {0}
LowCall (retire p) = Unit {0}

abbrev pub LowCalls : List Call → Type 0
LowCalls [] = Unit {0}
LowCalls (c ∷ cs) = LowCall c × LowCalls cs
