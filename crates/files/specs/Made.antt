-- What a function of the program leaves.
use Rattle.std.specs.Prelude.{ℕ, ◌≡◌, List, Result, Ok, Err}
use Rattle.lines.specs.Lines.{Puts}
use Rattle.storing.specs.Answer.{number_of}
use Rattle.storing.specs.File.{Written}
use Rattle.storing.specs.declared.Fault.{Fault}

-- how many bytes were put: none of a refusal
abbrev pub put_count : Result ℕ Fault → ℕ
put_count (Ok n) = n
put_count (Err _) = 0

-- the answer's number is w's, and w's bytes stand at the front of the lent ones, o before and o' after; so many were put
pub record Made (w : Written) (o o' : List ℕ) (r : Result ℕ Fault) : Type 0 where
  pub number_is : number_of r ≡ w.number
  pub put : Puts w.bytes 0 o o' (put_count r)
