-- The line of a verdict as the code has it.
use Rattle.std.specs.Prelude.{ℕ, ◌≤◌, List, Result, Ok, Err, length, take, ◌≡◌}
use Rattle.judging.specs.declared.Fault.{Fault}
use Rattle.judging.specs.declared.Fault.TheVariants.{WrongLength, Malformed, NoRoom, NoOrder}
use Rattle.lines.specs.Lines.{refused_line, no_order_line, order_line}

-- its order's operations are within the places e
abbrev pub Fits : Result ℕ Fault → List ℕ → Type 0
Fits (Ok n) e = (n ≤ length e) × (n ≡ length (take n e))
Fits (Err f) e = Unit {0}

-- its line if it is a refusal
unfoldable pub refusal_line : Fault → List ℕ
refusal_line WrongLength = refused_line 9
refusal_line Malformed = refused_line 10
refusal_line NoRoom = refused_line 11
refusal_line (NoOrder r) = no_order_line r

-- the line of any verdict, with the places that it leaves
unfoldable pub said_line : Result ℕ Fault → List ℕ → List ℕ
said_line (Ok n) places = order_line (take n places)
said_line (Err f) places = refusal_line f
