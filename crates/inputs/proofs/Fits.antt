-- There is an array of so many bytes, if they are 4,194,304 at most.
use Rattle.std.specs.Prelude.{ℕ, ◌≡◌, true, leb, ◌<◌, ◌^◌}
use native.Mathlib.Omega.{arith}
use borrow.Author.Tests.{leb-true}

pub fits : (n : ℕ) → leb n 4194304 ≡ true → n < 2 ^ 63
fits n few = let low = leb-true n 4194304 few in omega (arith, low)
